use Rattle.std.proofs.Common.{refl, subst, sym}
use Rattle.std.proofs.lemmas.Result.{err_from_is_err_and}
use Rattle.pec_http.proofs.ServingLemmas.{rested_so, seen_so}
use Rattle.pec_http.proofs.exchange.see.Goals as goal
use Rattle.pec_http.specs.Replies.{Reply}
use Rattle.pec_http.specs.Serving.{RestsBehind, Shows}
use Rattle.pec_http.specs.Writing.{IsReply}
use Rattle.pec_http.specs.declared.demands.Look.{Look}
use Rattle.pec_http.specs.declared.demands.Look.TheVariants as looks

pub returns-in-Book-clause-ok : goal.returns-in-Book-clause-ok
returns-in-Book-clause-ok g c = seen_so g.K.Desk.answers c.args.desk.now c.args.address.now c.args.look looks.Book
    (λ bytes. bytes.items) c.book.result c.shown.result c.in-Book.is (c.book.ensures.given, refl) c.book.ensures.refusals c.shown.ensures.ok

pub returns-in-Book-clause-rested : goal.returns-in-Book-clause-rested
returns-in-Book-clause-rested g c = rested_so g.K.Desk.answers c.args.desk.now c.args.address.now c.args.look c.shown.result

pub returns-in-Items-clause-ok : goal.returns-in-Items-clause-ok
returns-in-Items-clause-ok g c = seen_so g.K.Desk.answers c.args.desk.now c.args.address.now c.args.look looks.Items
    (λ bytes. bytes.items) c.items.result c.shown-in-Items.result c.in-Items.is (c.items.ensures.given, refl) c.items.ensures.refusals c.shown-in-Items.ensures.ok

pub returns-in-Items-clause-rested : goal.returns-in-Items-clause-rested
returns-in-Items-clause-rested g c = rested_so g.K.Desk.answers c.args.desk.now c.args.address.now c.args.look c.shown-in-Items.result

pub returns-in_ok-reply-in-Item-clause-ok : goal.returns-in_ok-reply-in-Item-clause-ok
returns-in_ok-reply-in-Item-clause-ok g c =
    let P : Look → Type 0 = λ l. (answer : Reply) × (Shows g.K.Desk.answers c.args.desk.now c.args.address.now l c.see_item.new.desk answer) × IsReply c.in_ok-reply-in-Item.reply answer in
    subst P (sym c.in-Item.is) c.in_ok-reply-in-Item.ensures.ok

pub returns-in_err-reply-in-Item-clause-rested : goal.returns-in_err-reply-in-Item-clause-rested
returns-in_err-reply-in-Item-clause-rested g c =
    let P : Look → Type 0 = λ l. RestsBehind g.K.Desk.answers c.args.desk.now c.args.address.now l c.see_item.new.desk in
    let p = err_from_is_err_and c.from_residual.result c.from_residual.ensures.1 in
    rw (p.1) (subst P (sym c.in-Item.is) c.in_err-reply-in-Item.ensures.rested)
