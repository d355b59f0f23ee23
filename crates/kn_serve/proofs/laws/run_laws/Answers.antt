-- The lemmas of a session, for others.
use Rattle.kn_serve.proofs.FineFacts.{all_false}
use Rattle.kn_serve.proofs.RunFacts.{is_session, reads_back}
use Rattle.kn_serve.proofs.SetupFacts.{fault_of, front_memory, no_write_fault}
use Rattle.kn_serve.proofs.laws.run_laws.Goals as goal

pub returns : goal.returns
returns g c =
    let reading = g.K.Clock.reading c.args._clock.now in
    record {
      session = λ slots x o.
          is_session reading slots x o.begins o.opens o.spec o.clock o.one o.faults o.wants
          (λ ok. let none = all_false x.faults x.wants ok in o.fine none.0 none.1);
      reads = reads_back c.journals_are_read.ensures.read reading;
      read_fault = fault_of;
      no_write_fault = no_write_fault;
      memory = front_memory;
    }
