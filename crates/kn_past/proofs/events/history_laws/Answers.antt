use Rattle.kn_past.proofs.ByEvents.{history_average, history_balance, history_live, history_load, history_quiet, history_value}
use Rattle.kn_past.proofs.events.history_laws.Goals as goal

pub returns : goal.returns
returns c =
    let laws = c.history_laws.ensures in
    record {
      balance = λ s start clock count d n h. history_balance c.fact_laws.ensures c.size_laws.ensures.live s start clock d n (laws.made s start clock count d h) (laws.times s start clock count d h);
      live = λ s start clock count d h. history_live c.fact_laws.ensures c.size_laws.ensures.live s d (laws.made s start clock count d h);
      quiet = λ s start clock count d n h. history_quiet c.fact_laws.ensures c.size_laws.ensures.live s start clock d n (laws.made s start clock count d h) (laws.times s start clock count d h);
      load = λ s start clock count d n h. history_load c.fact_laws.ensures c.size_laws.ensures.live s start clock d n (laws.made s start clock count d h) (laws.times s start clock count d h);
      value = λ s start clock count m d n v h. history_value c.fact_laws.ensures c.size_laws.ensures.live s start clock m d n v (laws.made s start clock count d h) (laws.times s start clock count d h);
      average = λ s start clock count m d n end h. history_average c.fact_laws.ensures c.size_laws.ensures.live s start clock m d n end (laws.made s start clock count d h) (laws.times s start clock count d h);
    }
