use Rattle.kn_scaler.proofs.facts.trace_facts.Goals as goal

pub returns : goal.returns
returns c = record {
  entries = record {
    phase = c.entry_laws.ensures.phase;
    mode = c.entry_laws.ensures.mode;
    wanted = c.entry_laws.ensures.wanted;
    phase_since = c.entry_laws.ensures.phase_since;
    mode_since = c.entry_laws.ensures.mode_since;
    decisions = c.entry_laws.ensures.decisions;
    reached = c.entry_laws.ensures.reached;
    reached_now = c.entry_laws.ensures.reached_now;
    reached_stays = c.entry_laws.ensures.reached_stays;
  };
  seconds = record {
    same = c.sample_laws.ensures.same;
    later = c.later_laws.ensures.sample;
    before = c.quiet_laws.ensures.ready;
    sample = c.quiet_laws.ensures.sample;
    load_most = c.bound_laws.ensures.load;
    load = c.change_laws.ensures.load;
    count = c.change_laws.ensures.count;
    more = c.step_laws.ensures.more;
  };
}
