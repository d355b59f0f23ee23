use Rattle.std.proofs.Common.{◌<◌, ap, sym, ◌∙◌, length, rules}
use Rattle.kn_figures.specs.Kinds.{place_of}
use Rattle.kn_figures.proofs.Counting.{decided, raised, undecided}
use Rattle.kn_figures.proofs.tally.Tally.note.Goals as goal

pub returns-in-Some : goal.returns-in-Some
returns-in-Some c d is =
    let low : c.place-place.result < length c.args.self.now.counts = search rules in
    record {
      counts = raised c.args.self.now d c.args.entry.now c.place-place.result c.saturating_add.result (c.place-place.ensures.place ∙ ap place_of c.of.ensures) low c.saturating_add.ensures is.counts;
      decision = sym (decided d c.args.entry.now c.in-Some.decision (sym c.decided_by.ensures ∙ c.in-Some.is));
    }

pub returns-in-None : goal.returns-in-None
returns-in-None c d is =
    let low : c.place-place.result < length c.args.self.now.counts = search rules in
    record {
      counts = raised c.args.self.now d c.args.entry.now c.place-place.result c.saturating_add.result (c.place-place.ensures.place ∙ ap place_of c.of.ensures) low c.saturating_add.ensures is.counts;
      decision = is.decision ∙ sym (undecided d c.args.entry.now (sym c.decided_by.ensures ∙ c.in-None.is));
    }
