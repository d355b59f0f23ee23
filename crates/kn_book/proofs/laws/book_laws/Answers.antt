use Rattle.kn_event.specs.declared.revision.Spec.{Spec}
use Rattle.kn_trace.specs.Trace.{Trace, live_pods}
use Rattle.kn_record.specs.Admission.{admission}
use Rattle.kn_record.specs.Made.{IsMade}
use Rattle.kn_book.proofs.Follows.{Views}
use Rattle.kn_book.proofs.Turns.{AreRising, rising}
use Rattle.kn_book.proofs.Lawful.{apart, created_least, enough, gone, has_live_pods, kept_address, range, turns, waits, without_addresses}
use Rattle.kn_book.proofs.Probes.{probes_next}
use Rattle.kn_book.proofs.laws.book_laws.Goals as goal

views : goal.After-fact_laws → Views
views c s d made = (c.append_laws.ensures.views s (admission d) d (c.append_laws.ensures.stands s d made)).pods

rise : (c : goal.After-fact_laws) (s : Spec) (d : Trace) → IsMade s d → AreRising (live_pods d)
rise c s d made = rw (views c s d made) (rising (admission d).pods (c.order_laws.ensures.order s (admission d) d made (c.append_laws.ensures.stands s d made)).pods)

pub returns : goal.returns
returns c =
    let facts = c.fact_laws.ensures in
    record {
      pods = has_live_pods facts (views c);
      apart = λ s n d made p q a. apart facts (views c) s n d p q a made;
      range = λ s n d made p a. range facts (views c) s n d p a made;
      gone = λ s n d made p. gone facts (views c) s n d p made;
      kept = λ s n d more made p a. kept_address facts (views c) s n d more p a made;
      least = λ s n d e made p. created_least facts (views c) s n d e p made;
      waits = λ s n d made p. waits facts (views c) s n d p made;
      enough = λ s n d made few p. enough facts (views c) s n d p made few;
      turns = λ s n d made p q less live_p live_q. turns facts (views c) s n d p q (rise c s d made) made live_p live_q less;
      probe = λ s n d made. probes_next facts s n d made (λ p q less live_p live_q. turns facts (views c) s n d p q (rise c s d made) made live_p live_q less);
      number = without_addresses;
    }
