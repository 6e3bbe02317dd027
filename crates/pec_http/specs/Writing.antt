-- An answer as it is written.
use Rattle.std.specs.Prelude.{◌≡◌, Option}
use Rattle.pec_types.specs.Bytes.{Bytes}
use Rattle.pec_http.specs.Desks.{Answers}
use Rattle.pec_http.specs.Input.{IsInput}
use Rattle.pec_http.specs.Replies.{Reply, reply_text}
use Rattle.pec_http.specs.Serving.{IsAnswer}
use Rattle.pec_http.specs.declared.replies.Reply.{Reply as Written}

-- These are the status and the bytes of the reply.
pub record IsReply (written : Written) (reply : Reply) : Type 0 where
  pub status : written.status ≡ reply.status
  pub text : written.text.items ≡ reply_text reply

-- This is the answer to what a connection had to come.
pub record Exchanges {Desk : Type 0} (answers : Answers Desk) (left : Option Bytes) (before after : Desk) (written : Written) : Type 0 where
  pub input : Bytes
  pub is_input : IsInput left input
  pub reply : Reply
  pub is_answer : IsAnswer answers before input after reply
  pub is_written : IsReply written reply
