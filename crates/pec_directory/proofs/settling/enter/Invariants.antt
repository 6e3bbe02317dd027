use Rattle.std.proofs.Common.{◌≡◌, ◌++◌, length, take, drop}
use Rattle.pec_index.specs.Entries.{Finds}
use Rattle.pec_directory.specs.Directory.{providers_of}
use Rattle.pec_directory.specs.Indexes.{deeds_from, deeds_of}
use Rattle.pec_directory.specs.Walk.{domains_of, stands_twice}
use Rattle.pec_directory.proofs.settling.enter.Given as goal

abbrev pub invariant-loop-domain : goal.invariant-loop-domain
invariant-loop-domain l =
    let earlier = providers_of l.providers in
    record {
      finds : Finds l.homes (deeds_from 0 earlier ++ deeds_of (length earlier) (take l.domain-index l.domains));
      once : stands_twice (domains_of earlier ++ take l.domain-index l.domains) (drop l.domain-index l.domains) ≡ stands_twice (domains_of earlier) l.domains;
    }
