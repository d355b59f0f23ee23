use Rattle.std.proofs.Common.{◌≡◌, ◌∙◌, ◌-◌, ℕ, ap, sym, refl, subst, inl, inr}
use Rattle.std.specs.Prelude.{Option, None, Some, map, string_bytes}
use Rattle.kn_journal.specs.declared.status.Status.{Status}
use Rattle.kn_journal.specs.declared.status.Status.TheVariants as status
use Rattle.kn_journal.specs.Status.{WritesNone}
use Rattle.kn_replay.specs.declared.command.Command.{Command}
use Rattle.kn_replay.specs.declared.command.Command.TheVariants as command
use Rattle.kn_replay.specs.Bundled.{ReplaysBundle, TakesMemoryFirst}
use Rattle.kn_replay.specs.Commands.{command_of}
use Rattle.kn_replay.specs.Generating.{Generates}
use Rattle.kn_replay.specs.Grouped.{ReplaysGroup}
use Rattle.kn_replay.specs.Replaying.{IsRefusal, IsReplayed, LeavesBehind, Replays}
use Rattle.kn_replay.specs.Simulating.{Simulates}
use Rattle.kn_replay.proofs.Generating.{of_same}
use Rattle.kn_replay.proofs.Replays.{never_usage}
use Rattle.kn_replay.proofs.command.run.Goals as goal

-- ---- the words ask for one thing alone

none_replays : (o : Option Command) → o ≡ None → o ≡ Some command.Replay → ⊥
none_replays o here there = cc

none_generates : (o : Option Command) (s n : ℕ) → o ≡ None → o ≡ Some (command.Generate s n) → ⊥
none_generates o s n here there = cc

replay_or_generate : (o : Option Command) (s n : ℕ) → o ≡ Some command.Replay → o ≡ Some (command.Generate s n) → ⊥
replay_or_generate o s n here there = cc

none_simulates : (o : Option Command) → o ≡ None → o ≡ Some command.Simulate → ⊥
none_simulates o here there = cc

replay_or_simulate : (o : Option Command) → o ≡ Some command.Replay → o ≡ Some command.Simulate → ⊥
replay_or_simulate o here there = cc

simulate_or_generate : (o : Option Command) (s n : ℕ) → o ≡ Some command.Simulate → o ≡ Some (command.Generate s n) → ⊥
simulate_or_generate o s n here there = cc

none_slices : (o : Option Command) → o ≡ None → o ≡ Some command.Slices → ⊥
none_slices o here there = cc

replay_or_slices : (o : Option Command) → o ≡ Some command.Replay → o ≡ Some command.Slices → ⊥
replay_or_slices o here there = cc

simulate_or_slices : (o : Option Command) → o ≡ Some command.Simulate → o ≡ Some command.Slices → ⊥
simulate_or_slices o here there = cc

slices_or_generate : (o : Option Command) (s n : ℕ) → o ≡ Some command.Slices → o ≡ Some (command.Generate s n) → ⊥
slices_or_generate o s n here there = cc

none_bundles : (o : Option Command) (k : ℕ) → o ≡ None → o ≡ Some (command.Bundle k) → ⊥
none_bundles o k here there = cc

replay_or_bundle : (o : Option Command) (k : ℕ) → o ≡ Some command.Replay → o ≡ Some (command.Bundle k) → ⊥
replay_or_bundle o k here there = cc

bundle_or_generate : (o : Option Command) (k s n : ℕ) → o ≡ Some (command.Bundle k) → o ≡ Some (command.Generate s n) → ⊥
bundle_or_generate o k s n here there = cc

simulate_or_bundle : (o : Option Command) (k : ℕ) → o ≡ Some command.Simulate → o ≡ Some (command.Bundle k) → ⊥
simulate_or_bundle o k here there = cc

slices_or_bundle : (o : Option Command) (k : ℕ) → o ≡ Some command.Slices → o ≡ Some (command.Bundle k) → ⊥
slices_or_bundle o k here there = cc

same_number : (o : Option Command) (k i : ℕ) → o ≡ Some (command.Bundle k) → o ≡ Some (command.Bundle i) → k ≡ i
same_number o k i here there = cc

-- ---- a usage fault is no other

usage_read : (x : Status) → x ≡ status.Usage → x ≡ status.ReadFault → ⊥
usage_read x here there = cc

usage_write : (x : Status) → x ≡ status.Usage → x ≡ status.WriteFault → ⊥
usage_write x here there = cc

pub generate-requires : goal.generate-requires
generate-requires g c =
    c.command_of.ensures.range c.in-Some-Generate.seed c.in-Some-Generate.count (c.in-Some-Generate.is ∙ ap (λ (k : Command). Some k) c.in-Some-Generate.field-0-is)

pub returns-in-None-clause-usage : goal.returns-in-None-clause-usage
returns-in-None-clause-usage g c =
    (λ _. (sym c.command_of.ensures.value ∙ c.in-None.is), λ _. c.tell.ensures.same)

pub returns-in-None-clause-unread : goal.returns-in-None-clause-unread
returns-in-None-clause-unread g c is =
    refl

pub returns-in-None-clause-unwritten : goal.returns-in-None-clause-unwritten
returns-in-None-clause-unwritten g c is =
    refl

pub returns-in-None-clause-report : goal.returns-in-None-clause-report
returns-in-None-clause-report g c is =
    absurd (none_replays _ (sym c.command_of.ensures.value ∙ c.in-None.is) is)

pub returns-in-None-clause-only : goal.returns-in-None-clause-only
returns-in-None-clause-only g c =
    inl c.tell.ensures.same

pub returns-in-None-clause-rest : goal.returns-in-None-clause-rest
returns-in-None-clause-rest g c is refused =
    absurd (none_replays _ (sym c.command_of.ensures.value ∙ c.in-None.is) is)

pub returns-in-None-clause-cut : goal.returns-in-None-clause-cut
returns-in-None-clause-cut g c is fault =
    absurd (none_replays _ (sym c.command_of.ensures.value ∙ c.in-None.is) is)

pub returns-in-None-clause-ended : goal.returns-in-None-clause-ended
returns-in-None-clause-ended g c is ok =
    absurd (none_replays _ (sym c.command_of.ensures.value ∙ c.in-None.is) is)

pub returns-in-None-clause-generates : goal.returns-in-None-clause-generates
returns-in-None-clause-generates g c s n is =
    absurd (none_generates _ s n (sym c.command_of.ensures.value ∙ c.in-None.is) is)

pub returns-in-None-clause-untouched : goal.returns-in-None-clause-untouched
returns-in-None-clause-untouched g c s n is =
    refl

pub returns-in-None-clause-memory : goal.returns-in-None-clause-memory
returns-in-None-clause-memory g c first is =
    refl

pub returns-in-None-clause-read_fault : goal.returns-in-None-clause-read_fault
returns-in-None-clause-read_fault g c is =
    absurd (usage_read _ c.tell.ensures.same is)

pub returns-in-None-clause-write_fault : goal.returns-in-None-clause-write_fault
returns-in-None-clause-write_fault g c is =
    absurd (usage_write _ c.tell.ensures.same is)

pub returns-in-None-clause-lawful : goal.returns-in-None-clause-lawful
returns-in-None-clause-lawful g c =
    c.journal_laws.ensures.lawful (g.S.Source.left c.args.input.now)

pub returns-in-None-clause-settled : goal.returns-in-None-clause-settled
returns-in-None-clause-settled g c =
    c.journal_laws.ensures.settled (g.S.Source.left c.args.input.now)

pub returns-in-None-clause-no_loss : goal.returns-in-None-clause-no_loss
returns-in-None-clause-no_loss g c =
    c.journal_laws.ensures.no_loss (g.S.Source.left c.args.input.now)

pub returns-in-None-clause-inert : goal.returns-in-None-clause-inert
returns-in-None-clause-inert g c =
    c.journal_laws.ensures.inert (g.S.Source.left c.args.input.now)

pub returns-in-None-clause-beside : goal.returns-in-None-clause-beside
returns-in-None-clause-beside g c =
    c.journal_laws.ensures.beside (g.S.Source.left c.args.input.now)

pub returns-in-None-clause-told : goal.returns-in-None-clause-told
returns-in-None-clause-told g c =
    c.tell.ensures.told

pub returns-in-None-clause-simulates : goal.returns-in-None-clause-simulates
returns-in-None-clause-simulates g c is =
    absurd (none_simulates _ (sym c.command_of.ensures.value ∙ c.in-None.is) is)

pub returns-in-None-clause-unsaid : goal.returns-in-None-clause-unsaid
returns-in-None-clause-unsaid g c is none =
    absurd (none_simulates _ (sym c.command_of.ensures.value ∙ c.in-None.is) is)

pub returns-in-Some-Replay-clause-usage : goal.returns-in-Some-Replay-clause-usage
returns-in-Some-Replay-clause-usage g c =
    (λ is. absurd (never_usage _ (subst IsReplayed (sym c.tell-in-Some-Replay.ensures.same) c.replay_journal.ensures.replayed) is), λ none. absurd (none_replays _ none (sym c.command_of.ensures.value ∙ c.in-Some-Replay.is ∙ ap (λ (k : Command). Some k) c.in-Some-Replay.field-0-is)))

pub returns-in-Some-Replay-clause-unread : goal.returns-in-Some-Replay-clause-unread
returns-in-Some-Replay-clause-unread g c is =
    absurd (never_usage _ (subst IsReplayed (sym c.tell-in-Some-Replay.ensures.same) c.replay_journal.ensures.replayed) is)

pub returns-in-Some-Replay-clause-unwritten : goal.returns-in-Some-Replay-clause-unwritten
returns-in-Some-Replay-clause-unwritten g c is =
    absurd (never_usage _ (subst IsReplayed (sym c.tell-in-Some-Replay.ensures.same) c.replay_journal.ensures.replayed) is)

pub returns-in-Some-Replay-clause-only : goal.returns-in-Some-Replay-clause-only
returns-in-Some-Replay-clause-only g c =
    inr (subst IsReplayed (sym c.tell-in-Some-Replay.ensures.same) c.replay_journal.ensures.replayed)

pub returns-in-Some-Replay-clause-memory : goal.returns-in-Some-Replay-clause-memory
returns-in-Some-Replay-clause-memory g c first is =
    c.replay_journal.ensures.memory (sym c.tell-in-Some-Replay.ensures.same ∙ is)

pub returns-in-Some-Replay-clause-write_fault : goal.returns-in-Some-Replay-clause-write_fault
returns-in-Some-Replay-clause-write_fault g c is =
    c.replay_journal.ensures.write_fault (sym c.tell-in-Some-Replay.ensures.same ∙ is)

pub returns-in-Some-Replay-clause-report : goal.returns-in-Some-Replay-clause-report
returns-in-Some-Replay-clause-report g c is =
    subst (λ (x : Status). Replays (g.S.Source.left c.args.input.now) (g.S.Source.left c.replay_journal.new.source) (g.S.Source.given c.replay_journal.new.source - g.S.Source.given c.args.input.now) (g.O.Sink.held c.args.out.now) (g.O.Sink.held c.replay_journal.new.out) x) (sym c.tell-in-Some-Replay.ensures.same) c.replay_journal.ensures.report

pub returns-in-Some-Replay-clause-rest : goal.returns-in-Some-Replay-clause-rest
returns-in-Some-Replay-clause-rest g c is refused =
    let same = c.tell-in-Some-Replay.ensures.same in
    let rest = c.replay_journal.ensures.rest (subst IsRefusal same refused) in
    subst (λ (x : Status). LeavesBehind x (g.S.Source.left c.args.input.now) (g.S.Source.left c.replay_journal.new.source)) (sym same) rest

pub returns-in-Some-Replay-clause-cut : goal.returns-in-Some-Replay-clause-cut
returns-in-Some-Replay-clause-cut g c is fault =
    c.replay_journal.ensures.cut (sym c.tell-in-Some-Replay.ensures.same ∙ fault)

pub returns-in-Some-Replay-clause-ended : goal.returns-in-Some-Replay-clause-ended
returns-in-Some-Replay-clause-ended g c is ok =
    c.replay_journal.ensures.ended (sym c.tell-in-Some-Replay.ensures.same ∙ ok)

pub returns-in-Some-Replay-clause-generates : goal.returns-in-Some-Replay-clause-generates
returns-in-Some-Replay-clause-generates g c s n is =
    absurd (replay_or_generate _ s n (sym c.command_of.ensures.value ∙ c.in-Some-Replay.is ∙ ap (λ (k : Command). Some k) c.in-Some-Replay.field-0-is) is)

pub returns-in-Some-Replay-clause-untouched : goal.returns-in-Some-Replay-clause-untouched
returns-in-Some-Replay-clause-untouched g c s n is =
    absurd (replay_or_generate _ s n (sym c.command_of.ensures.value ∙ c.in-Some-Replay.is ∙ ap (λ (k : Command). Some k) c.in-Some-Replay.field-0-is) is)

pub returns-in-Some-Replay-clause-read_fault : goal.returns-in-Some-Replay-clause-read_fault
returns-in-Some-Replay-clause-read_fault g c is =
    c.replay_journal.ensures.read_fault (sym c.tell-in-Some-Replay.ensures.same ∙ is)

pub returns-in-Some-Replay-clause-lawful : goal.returns-in-Some-Replay-clause-lawful
returns-in-Some-Replay-clause-lawful g c =
    c.journal_laws.ensures.lawful (g.S.Source.left c.args.input.now)

pub returns-in-Some-Replay-clause-settled : goal.returns-in-Some-Replay-clause-settled
returns-in-Some-Replay-clause-settled g c =
    c.journal_laws.ensures.settled (g.S.Source.left c.args.input.now)

pub returns-in-Some-Replay-clause-no_loss : goal.returns-in-Some-Replay-clause-no_loss
returns-in-Some-Replay-clause-no_loss g c =
    c.journal_laws.ensures.no_loss (g.S.Source.left c.args.input.now)

pub returns-in-Some-Replay-clause-inert : goal.returns-in-Some-Replay-clause-inert
returns-in-Some-Replay-clause-inert g c =
    c.journal_laws.ensures.inert (g.S.Source.left c.args.input.now)

pub returns-in-Some-Replay-clause-beside : goal.returns-in-Some-Replay-clause-beside
returns-in-Some-Replay-clause-beside g c =
    c.journal_laws.ensures.beside (g.S.Source.left c.args.input.now)

pub returns-in-Some-Replay-clause-told : goal.returns-in-Some-Replay-clause-told
returns-in-Some-Replay-clause-told g c =
    c.tell-in-Some-Replay.ensures.told

pub returns-in-Some-Replay-clause-simulates : goal.returns-in-Some-Replay-clause-simulates
returns-in-Some-Replay-clause-simulates g c is =
    absurd (replay_or_simulate _ (sym c.command_of.ensures.value ∙ c.in-Some-Replay.is ∙ ap (λ (k : Command). Some k) c.in-Some-Replay.field-0-is) is)

pub returns-in-Some-Replay-clause-unsaid : goal.returns-in-Some-Replay-clause-unsaid
returns-in-Some-Replay-clause-unsaid g c is none =
    absurd (replay_or_simulate _ (sym c.command_of.ensures.value ∙ c.in-Some-Replay.is ∙ ap (λ (k : Command). Some k) c.in-Some-Replay.field-0-is) is)

pub returns-in-Some-Generate-clause-usage : goal.returns-in-Some-Generate-clause-usage
returns-in-Some-Generate-clause-usage g c =
    (λ is. absurd (never_usage _ (subst IsReplayed (sym c.tell-in-Some-Generate.ensures.same) c.generate.ensures.replayed) is), λ none. absurd (none_generates _ c.in-Some-Generate.seed c.in-Some-Generate.count none (sym c.command_of.ensures.value ∙ c.in-Some-Generate.is ∙ ap (λ (k : Command). Some k) c.in-Some-Generate.field-0-is)))

pub returns-in-Some-Generate-clause-unread : goal.returns-in-Some-Generate-clause-unread
returns-in-Some-Generate-clause-unread g c is =
    refl

pub returns-in-Some-Generate-clause-unwritten : goal.returns-in-Some-Generate-clause-unwritten
returns-in-Some-Generate-clause-unwritten g c is =
    absurd (never_usage _ (subst IsReplayed (sym c.tell-in-Some-Generate.ensures.same) c.generate.ensures.replayed) is)

pub returns-in-Some-Generate-clause-only : goal.returns-in-Some-Generate-clause-only
returns-in-Some-Generate-clause-only g c =
    inr (subst IsReplayed (sym c.tell-in-Some-Generate.ensures.same) c.generate.ensures.replayed)

pub returns-in-Some-Generate-clause-memory : goal.returns-in-Some-Generate-clause-memory
returns-in-Some-Generate-clause-memory g c first is =
    c.generate.ensures.memory (sym c.tell-in-Some-Generate.ensures.same ∙ is)

pub returns-in-Some-Generate-clause-write_fault : goal.returns-in-Some-Generate-clause-write_fault
returns-in-Some-Generate-clause-write_fault g c is =
    c.generate.ensures.write_fault (sym c.tell-in-Some-Generate.ensures.same ∙ is)

pub returns-in-Some-Generate-clause-report : goal.returns-in-Some-Generate-clause-report
returns-in-Some-Generate-clause-report g c is =
    absurd (replay_or_generate _ c.in-Some-Generate.seed c.in-Some-Generate.count is (sym c.command_of.ensures.value ∙ c.in-Some-Generate.is ∙ ap (λ (k : Command). Some k) c.in-Some-Generate.field-0-is))

pub returns-in-Some-Generate-clause-rest : goal.returns-in-Some-Generate-clause-rest
returns-in-Some-Generate-clause-rest g c is refused =
    absurd (replay_or_generate _ c.in-Some-Generate.seed c.in-Some-Generate.count is (sym c.command_of.ensures.value ∙ c.in-Some-Generate.is ∙ ap (λ (k : Command). Some k) c.in-Some-Generate.field-0-is))

pub returns-in-Some-Generate-clause-cut : goal.returns-in-Some-Generate-clause-cut
returns-in-Some-Generate-clause-cut g c is fault =
    absurd (replay_or_generate _ c.in-Some-Generate.seed c.in-Some-Generate.count is (sym c.command_of.ensures.value ∙ c.in-Some-Generate.is ∙ ap (λ (k : Command). Some k) c.in-Some-Generate.field-0-is))

pub returns-in-Some-Generate-clause-ended : goal.returns-in-Some-Generate-clause-ended
returns-in-Some-Generate-clause-ended g c is ok =
    absurd (replay_or_generate _ c.in-Some-Generate.seed c.in-Some-Generate.count is (sym c.command_of.ensures.value ∙ c.in-Some-Generate.is ∙ ap (λ (k : Command). Some k) c.in-Some-Generate.field-0-is))

pub returns-in-Some-Generate-clause-generates : goal.returns-in-Some-Generate-clause-generates
returns-in-Some-Generate-clause-generates g c seed count is =
    let all = subst (λ (x : Status). Generates c.in-Some-Generate.seed c.in-Some-Generate.count (g.O.Sink.held c.args.out.now) (g.O.Sink.held c.generate.new.out) x) (sym c.tell-in-Some-Generate.ensures.same) c.generate.ensures.generates in
    of_same (command_of (map string_bytes c.args.words.now)) c.in-Some-Generate.seed c.in-Some-Generate.count seed count (λ s n. Generates s n (g.O.Sink.held c.args.out.now) (g.O.Sink.held c.generate.new.out) c.tell-in-Some-Generate.result) (sym c.command_of.ensures.value ∙ c.in-Some-Generate.is ∙ ap (λ (k : Command). Some k) c.in-Some-Generate.field-0-is) is all

pub returns-in-Some-Generate-clause-untouched : goal.returns-in-Some-Generate-clause-untouched
returns-in-Some-Generate-clause-untouched g c s n is =
    refl

pub returns-in-Some-Generate-clause-read_fault : goal.returns-in-Some-Generate-clause-read_fault
returns-in-Some-Generate-clause-read_fault g c is =
    absurd (c.generate.ensures.reads_nothing (sym c.tell-in-Some-Generate.ensures.same ∙ is))

pub returns-in-Some-Generate-clause-lawful : goal.returns-in-Some-Generate-clause-lawful
returns-in-Some-Generate-clause-lawful g c =
    c.journal_laws.ensures.lawful (g.S.Source.left c.args.input.now)

pub returns-in-Some-Generate-clause-settled : goal.returns-in-Some-Generate-clause-settled
returns-in-Some-Generate-clause-settled g c =
    c.journal_laws.ensures.settled (g.S.Source.left c.args.input.now)

pub returns-in-Some-Generate-clause-no_loss : goal.returns-in-Some-Generate-clause-no_loss
returns-in-Some-Generate-clause-no_loss g c =
    c.journal_laws.ensures.no_loss (g.S.Source.left c.args.input.now)

pub returns-in-Some-Generate-clause-inert : goal.returns-in-Some-Generate-clause-inert
returns-in-Some-Generate-clause-inert g c =
    c.journal_laws.ensures.inert (g.S.Source.left c.args.input.now)

pub returns-in-Some-Generate-clause-beside : goal.returns-in-Some-Generate-clause-beside
returns-in-Some-Generate-clause-beside g c =
    c.journal_laws.ensures.beside (g.S.Source.left c.args.input.now)

pub returns-in-Some-Generate-clause-told : goal.returns-in-Some-Generate-clause-told
returns-in-Some-Generate-clause-told g c =
    c.tell-in-Some-Generate.ensures.told

pub returns-in-Some-Generate-clause-simulates : goal.returns-in-Some-Generate-clause-simulates
returns-in-Some-Generate-clause-simulates g c is =
    absurd (simulate_or_generate _ c.in-Some-Generate.seed c.in-Some-Generate.count is (sym c.command_of.ensures.value ∙ c.in-Some-Generate.is ∙ ap (λ (k : Command). Some k) c.in-Some-Generate.field-0-is))

pub returns-in-Some-Generate-clause-unsaid : goal.returns-in-Some-Generate-clause-unsaid
returns-in-Some-Generate-clause-unsaid g c is none =
    absurd (simulate_or_generate _ c.in-Some-Generate.seed c.in-Some-Generate.count is (sym c.command_of.ensures.value ∙ c.in-Some-Generate.is ∙ ap (λ (k : Command). Some k) c.in-Some-Generate.field-0-is))

pub returns-in-Some-Simulate-clause-usage : goal.returns-in-Some-Simulate-clause-usage
returns-in-Some-Simulate-clause-usage g c =
    (λ is. absurd (never_usage _ (subst IsReplayed (sym c.tell-in-Some-Simulate.ensures.same) c.simulate_input.ensures.replayed) is), λ none. absurd (none_simulates _ none (sym c.command_of.ensures.value ∙ c.in-Some-Simulate.is ∙ ap (λ (k : Command). Some k) c.in-Some-Simulate.field-0-is)))

pub returns-in-Some-Simulate-clause-unread : goal.returns-in-Some-Simulate-clause-unread
returns-in-Some-Simulate-clause-unread g c is =
    absurd (never_usage _ (subst IsReplayed (sym c.tell-in-Some-Simulate.ensures.same) c.simulate_input.ensures.replayed) is)

pub returns-in-Some-Simulate-clause-unwritten : goal.returns-in-Some-Simulate-clause-unwritten
returns-in-Some-Simulate-clause-unwritten g c is =
    absurd (never_usage _ (subst IsReplayed (sym c.tell-in-Some-Simulate.ensures.same) c.simulate_input.ensures.replayed) is)

pub returns-in-Some-Simulate-clause-only : goal.returns-in-Some-Simulate-clause-only
returns-in-Some-Simulate-clause-only g c =
    inr (subst IsReplayed (sym c.tell-in-Some-Simulate.ensures.same) c.simulate_input.ensures.replayed)

pub returns-in-Some-Simulate-clause-report : goal.returns-in-Some-Simulate-clause-report
returns-in-Some-Simulate-clause-report g c is =
    absurd (replay_or_simulate _ is (sym c.command_of.ensures.value ∙ c.in-Some-Simulate.is ∙ ap (λ (k : Command). Some k) c.in-Some-Simulate.field-0-is))

pub returns-in-Some-Simulate-clause-rest : goal.returns-in-Some-Simulate-clause-rest
returns-in-Some-Simulate-clause-rest g c is refused =
    absurd (replay_or_simulate _ is (sym c.command_of.ensures.value ∙ c.in-Some-Simulate.is ∙ ap (λ (k : Command). Some k) c.in-Some-Simulate.field-0-is))

pub returns-in-Some-Simulate-clause-cut : goal.returns-in-Some-Simulate-clause-cut
returns-in-Some-Simulate-clause-cut g c is fault =
    absurd (replay_or_simulate _ is (sym c.command_of.ensures.value ∙ c.in-Some-Simulate.is ∙ ap (λ (k : Command). Some k) c.in-Some-Simulate.field-0-is))

pub returns-in-Some-Simulate-clause-ended : goal.returns-in-Some-Simulate-clause-ended
returns-in-Some-Simulate-clause-ended g c is ok =
    absurd (replay_or_simulate _ is (sym c.command_of.ensures.value ∙ c.in-Some-Simulate.is ∙ ap (λ (k : Command). Some k) c.in-Some-Simulate.field-0-is))

pub returns-in-Some-Simulate-clause-generates : goal.returns-in-Some-Simulate-clause-generates
returns-in-Some-Simulate-clause-generates g c s n is =
    absurd (simulate_or_generate _ s n (sym c.command_of.ensures.value ∙ c.in-Some-Simulate.is ∙ ap (λ (k : Command). Some k) c.in-Some-Simulate.field-0-is) is)

pub returns-in-Some-Simulate-clause-untouched : goal.returns-in-Some-Simulate-clause-untouched
returns-in-Some-Simulate-clause-untouched g c s n is =
    absurd (simulate_or_generate _ s n (sym c.command_of.ensures.value ∙ c.in-Some-Simulate.is ∙ ap (λ (k : Command). Some k) c.in-Some-Simulate.field-0-is) is)

pub returns-in-Some-Simulate-clause-memory : goal.returns-in-Some-Simulate-clause-memory
returns-in-Some-Simulate-clause-memory g c first is =
    c.simulate_input.ensures.unwritten (subst WritesNone (sym (sym c.tell-in-Some-Simulate.ensures.same ∙ is)) tt)

pub returns-in-Some-Simulate-clause-read_fault : goal.returns-in-Some-Simulate-clause-read_fault
returns-in-Some-Simulate-clause-read_fault g c is =
    c.simulate_input.ensures.read_fault (sym c.tell-in-Some-Simulate.ensures.same ∙ is)

pub returns-in-Some-Simulate-clause-write_fault : goal.returns-in-Some-Simulate-clause-write_fault
returns-in-Some-Simulate-clause-write_fault g c is =
    c.simulate_input.ensures.write_fault (sym c.tell-in-Some-Simulate.ensures.same ∙ is)

pub returns-in-Some-Simulate-clause-lawful : goal.returns-in-Some-Simulate-clause-lawful
returns-in-Some-Simulate-clause-lawful g c =
    c.journal_laws.ensures.lawful (g.S.Source.left c.args.input.now)

pub returns-in-Some-Simulate-clause-settled : goal.returns-in-Some-Simulate-clause-settled
returns-in-Some-Simulate-clause-settled g c =
    c.journal_laws.ensures.settled (g.S.Source.left c.args.input.now)

pub returns-in-Some-Simulate-clause-no_loss : goal.returns-in-Some-Simulate-clause-no_loss
returns-in-Some-Simulate-clause-no_loss g c =
    c.journal_laws.ensures.no_loss (g.S.Source.left c.args.input.now)

pub returns-in-Some-Simulate-clause-inert : goal.returns-in-Some-Simulate-clause-inert
returns-in-Some-Simulate-clause-inert g c =
    c.journal_laws.ensures.inert (g.S.Source.left c.args.input.now)

pub returns-in-Some-Simulate-clause-beside : goal.returns-in-Some-Simulate-clause-beside
returns-in-Some-Simulate-clause-beside g c =
    c.journal_laws.ensures.beside (g.S.Source.left c.args.input.now)

pub returns-in-Some-Simulate-clause-told : goal.returns-in-Some-Simulate-clause-told
returns-in-Some-Simulate-clause-told g c =
    c.tell-in-Some-Simulate.ensures.told

pub returns-in-Some-Simulate-clause-simulates : goal.returns-in-Some-Simulate-clause-simulates
returns-in-Some-Simulate-clause-simulates g c is =
    subst (λ (x : Status). Simulates (g.S.Source.left c.args.input.now) (g.O.Sink.held c.args.out.now) (g.O.Sink.held c.simulate_input.new.out) x) (sym c.tell-in-Some-Simulate.ensures.same) c.simulate_input.ensures.simulates

pub returns-in-Some-Simulate-clause-unsaid : goal.returns-in-Some-Simulate-clause-unsaid
returns-in-Some-Simulate-clause-unsaid g c is none =
    c.simulate_input.ensures.unwritten (subst WritesNone c.tell-in-Some-Simulate.ensures.same none)

pub returns-in-Some-Slices-clause-usage : goal.returns-in-Some-Slices-clause-usage
returns-in-Some-Slices-clause-usage g c =
    (λ is. absurd (never_usage _ (subst IsReplayed (sym c.tell-in-Some-Slices.ensures.same) c.replay_group.ensures.replayed) is), λ none. absurd (none_slices _ none (sym c.command_of.ensures.value ∙ c.in-Some-Slices.is ∙ ap (λ (k : Command). Some k) c.in-Some-Slices.field-0-is)))

pub returns-in-Some-Slices-clause-unread : goal.returns-in-Some-Slices-clause-unread
returns-in-Some-Slices-clause-unread g c is =
    absurd (never_usage _ (subst IsReplayed (sym c.tell-in-Some-Slices.ensures.same) c.replay_group.ensures.replayed) is)

pub returns-in-Some-Slices-clause-unwritten : goal.returns-in-Some-Slices-clause-unwritten
returns-in-Some-Slices-clause-unwritten g c is =
    absurd (never_usage _ (subst IsReplayed (sym c.tell-in-Some-Slices.ensures.same) c.replay_group.ensures.replayed) is)

pub returns-in-Some-Slices-clause-only : goal.returns-in-Some-Slices-clause-only
returns-in-Some-Slices-clause-only g c =
    inr (subst IsReplayed (sym c.tell-in-Some-Slices.ensures.same) c.replay_group.ensures.replayed)

pub returns-in-Some-Slices-clause-report : goal.returns-in-Some-Slices-clause-report
returns-in-Some-Slices-clause-report g c is =
    absurd (replay_or_slices _ is (sym c.command_of.ensures.value ∙ c.in-Some-Slices.is ∙ ap (λ (k : Command). Some k) c.in-Some-Slices.field-0-is))

pub returns-in-Some-Slices-clause-rest : goal.returns-in-Some-Slices-clause-rest
returns-in-Some-Slices-clause-rest g c is refused =
    absurd (replay_or_slices _ is (sym c.command_of.ensures.value ∙ c.in-Some-Slices.is ∙ ap (λ (k : Command). Some k) c.in-Some-Slices.field-0-is))

pub returns-in-Some-Slices-clause-cut : goal.returns-in-Some-Slices-clause-cut
returns-in-Some-Slices-clause-cut g c is fault =
    absurd (replay_or_slices _ is (sym c.command_of.ensures.value ∙ c.in-Some-Slices.is ∙ ap (λ (k : Command). Some k) c.in-Some-Slices.field-0-is))

pub returns-in-Some-Slices-clause-ended : goal.returns-in-Some-Slices-clause-ended
returns-in-Some-Slices-clause-ended g c is ok =
    absurd (replay_or_slices _ is (sym c.command_of.ensures.value ∙ c.in-Some-Slices.is ∙ ap (λ (k : Command). Some k) c.in-Some-Slices.field-0-is))

pub returns-in-Some-Slices-clause-generates : goal.returns-in-Some-Slices-clause-generates
returns-in-Some-Slices-clause-generates g c s n is =
    absurd (slices_or_generate _ s n (sym c.command_of.ensures.value ∙ c.in-Some-Slices.is ∙ ap (λ (k : Command). Some k) c.in-Some-Slices.field-0-is) is)

pub returns-in-Some-Slices-clause-untouched : goal.returns-in-Some-Slices-clause-untouched
returns-in-Some-Slices-clause-untouched g c s n is =
    absurd (slices_or_generate _ s n (sym c.command_of.ensures.value ∙ c.in-Some-Slices.is ∙ ap (λ (k : Command). Some k) c.in-Some-Slices.field-0-is) is)

pub returns-in-Some-Slices-clause-memory : goal.returns-in-Some-Slices-clause-memory
returns-in-Some-Slices-clause-memory g c first is =
    c.replay_group.ensures.memory (sym c.tell-in-Some-Slices.ensures.same ∙ is)

pub returns-in-Some-Slices-clause-read_fault : goal.returns-in-Some-Slices-clause-read_fault
returns-in-Some-Slices-clause-read_fault g c is =
    c.replay_group.ensures.read_fault (sym c.tell-in-Some-Slices.ensures.same ∙ is)

pub returns-in-Some-Slices-clause-write_fault : goal.returns-in-Some-Slices-clause-write_fault
returns-in-Some-Slices-clause-write_fault g c is =
    c.replay_group.ensures.write_fault (sym c.tell-in-Some-Slices.ensures.same ∙ is)

pub returns-in-Some-Slices-clause-lawful : goal.returns-in-Some-Slices-clause-lawful
returns-in-Some-Slices-clause-lawful g c =
    c.journal_laws.ensures.lawful (g.S.Source.left c.args.input.now)

pub returns-in-Some-Slices-clause-settled : goal.returns-in-Some-Slices-clause-settled
returns-in-Some-Slices-clause-settled g c =
    c.journal_laws.ensures.settled (g.S.Source.left c.args.input.now)

pub returns-in-Some-Slices-clause-no_loss : goal.returns-in-Some-Slices-clause-no_loss
returns-in-Some-Slices-clause-no_loss g c =
    c.journal_laws.ensures.no_loss (g.S.Source.left c.args.input.now)

pub returns-in-Some-Slices-clause-inert : goal.returns-in-Some-Slices-clause-inert
returns-in-Some-Slices-clause-inert g c =
    c.journal_laws.ensures.inert (g.S.Source.left c.args.input.now)

pub returns-in-Some-Slices-clause-beside : goal.returns-in-Some-Slices-clause-beside
returns-in-Some-Slices-clause-beside g c =
    c.journal_laws.ensures.beside (g.S.Source.left c.args.input.now)

pub returns-in-Some-Slices-clause-told : goal.returns-in-Some-Slices-clause-told
returns-in-Some-Slices-clause-told g c =
    c.tell-in-Some-Slices.ensures.told

pub returns-in-Some-Slices-clause-simulates : goal.returns-in-Some-Slices-clause-simulates
returns-in-Some-Slices-clause-simulates g c is =
    absurd (simulate_or_slices _ is (sym c.command_of.ensures.value ∙ c.in-Some-Slices.is ∙ ap (λ (k : Command). Some k) c.in-Some-Slices.field-0-is))

pub returns-in-Some-Slices-clause-unsaid : goal.returns-in-Some-Slices-clause-unsaid
returns-in-Some-Slices-clause-unsaid g c is none =
    absurd (simulate_or_slices _ is (sym c.command_of.ensures.value ∙ c.in-Some-Slices.is ∙ ap (λ (k : Command). Some k) c.in-Some-Slices.field-0-is))

pub returns-in-Some-Slices-clause-slices : goal.returns-in-Some-Slices-clause-slices
returns-in-Some-Slices-clause-slices g c is =
    subst (λ (x : Status). ReplaysGroup (g.S.Source.left c.args.input.now) (g.S.Source.left c.replay_group.new.input) (g.S.Source.given c.replay_group.new.input - g.S.Source.given c.args.input.now) (g.O.Sink.held c.args.out.now) (g.O.Sink.held c.replay_group.new.out) x) (sym c.tell-in-Some-Slices.ensures.same) c.replay_group.ensures.report

pub returns-in-None-clause-slices : goal.returns-in-None-clause-slices
returns-in-None-clause-slices g c is =
    absurd (none_slices _ (sym c.command_of.ensures.value ∙ c.in-None.is) is)

pub returns-in-Some-Replay-clause-slices : goal.returns-in-Some-Replay-clause-slices
returns-in-Some-Replay-clause-slices g c is =
    absurd (replay_or_slices _ (sym c.command_of.ensures.value ∙ c.in-Some-Replay.is ∙ ap (λ (k : Command). Some k) c.in-Some-Replay.field-0-is) is)

pub returns-in-Some-Generate-clause-slices : goal.returns-in-Some-Generate-clause-slices
returns-in-Some-Generate-clause-slices g c is =
    absurd (slices_or_generate _ c.in-Some-Generate.seed c.in-Some-Generate.count is (sym c.command_of.ensures.value ∙ c.in-Some-Generate.is ∙ ap (λ (k : Command). Some k) c.in-Some-Generate.field-0-is))

pub returns-in-Some-Simulate-clause-slices : goal.returns-in-Some-Simulate-clause-slices
returns-in-Some-Simulate-clause-slices g c is =
    absurd (simulate_or_slices _ (sym c.command_of.ensures.value ∙ c.in-Some-Simulate.is ∙ ap (λ (k : Command). Some k) c.in-Some-Simulate.field-0-is) is)

pub returns-in-Some-Bundle-clause-usage : goal.returns-in-Some-Bundle-clause-usage
returns-in-Some-Bundle-clause-usage g c =
    (λ is. absurd (never_usage _ (subst IsReplayed (sym c.tell-in-Some-Bundle.ensures.same) c.replay_bundle.ensures.replayed) is), λ none. absurd (none_bundles _ c.in-Some-Bundle.k none (sym c.command_of.ensures.value ∙ c.in-Some-Bundle.is ∙ ap (λ (k : Command). Some k) c.in-Some-Bundle.field-0-is)))

pub returns-in-Some-Bundle-clause-unread : goal.returns-in-Some-Bundle-clause-unread
returns-in-Some-Bundle-clause-unread g c is =
    absurd (never_usage _ (subst IsReplayed (sym c.tell-in-Some-Bundle.ensures.same) c.replay_bundle.ensures.replayed) is)

pub returns-in-Some-Bundle-clause-unwritten : goal.returns-in-Some-Bundle-clause-unwritten
returns-in-Some-Bundle-clause-unwritten g c is =
    absurd (never_usage _ (subst IsReplayed (sym c.tell-in-Some-Bundle.ensures.same) c.replay_bundle.ensures.replayed) is)

pub returns-in-Some-Bundle-clause-only : goal.returns-in-Some-Bundle-clause-only
returns-in-Some-Bundle-clause-only g c =
    inr (subst IsReplayed (sym c.tell-in-Some-Bundle.ensures.same) c.replay_bundle.ensures.replayed)

pub returns-in-Some-Bundle-clause-report : goal.returns-in-Some-Bundle-clause-report
returns-in-Some-Bundle-clause-report g c is =
    absurd (replay_or_bundle _ c.in-Some-Bundle.k is (sym c.command_of.ensures.value ∙ c.in-Some-Bundle.is ∙ ap (λ (k : Command). Some k) c.in-Some-Bundle.field-0-is))

pub returns-in-Some-Bundle-clause-rest : goal.returns-in-Some-Bundle-clause-rest
returns-in-Some-Bundle-clause-rest g c is refused =
    absurd (replay_or_bundle _ c.in-Some-Bundle.k is (sym c.command_of.ensures.value ∙ c.in-Some-Bundle.is ∙ ap (λ (k : Command). Some k) c.in-Some-Bundle.field-0-is))

pub returns-in-Some-Bundle-clause-cut : goal.returns-in-Some-Bundle-clause-cut
returns-in-Some-Bundle-clause-cut g c is fault =
    absurd (replay_or_bundle _ c.in-Some-Bundle.k is (sym c.command_of.ensures.value ∙ c.in-Some-Bundle.is ∙ ap (λ (k : Command). Some k) c.in-Some-Bundle.field-0-is))

pub returns-in-Some-Bundle-clause-ended : goal.returns-in-Some-Bundle-clause-ended
returns-in-Some-Bundle-clause-ended g c is ok =
    absurd (replay_or_bundle _ c.in-Some-Bundle.k is (sym c.command_of.ensures.value ∙ c.in-Some-Bundle.is ∙ ap (λ (k : Command). Some k) c.in-Some-Bundle.field-0-is))

pub returns-in-Some-Bundle-clause-generates : goal.returns-in-Some-Bundle-clause-generates
returns-in-Some-Bundle-clause-generates g c s n is =
    absurd (bundle_or_generate _ c.in-Some-Bundle.k s n (sym c.command_of.ensures.value ∙ c.in-Some-Bundle.is ∙ ap (λ (k : Command). Some k) c.in-Some-Bundle.field-0-is) is)

pub returns-in-Some-Bundle-clause-untouched : goal.returns-in-Some-Bundle-clause-untouched
returns-in-Some-Bundle-clause-untouched g c s n is =
    absurd (bundle_or_generate _ c.in-Some-Bundle.k s n (sym c.command_of.ensures.value ∙ c.in-Some-Bundle.is ∙ ap (λ (k : Command). Some k) c.in-Some-Bundle.field-0-is) is)

pub returns-in-Some-Bundle-clause-memory : goal.returns-in-Some-Bundle-clause-memory
returns-in-Some-Bundle-clause-memory g c first is =
    absurd (subst TakesMemoryFirst (sym c.command_of.ensures.value ∙ c.in-Some-Bundle.is ∙ ap (λ (k : Command). Some k) c.in-Some-Bundle.field-0-is) first)

pub returns-in-Some-Bundle-clause-bundle : goal.returns-in-Some-Bundle-clause-bundle
returns-in-Some-Bundle-clause-bundle g c k is =
    let all = subst (λ (x : Status). ReplaysBundle c.in-Some-Bundle.k (g.S.Source.left c.args.input.now) (g.S.Source.left c.replay_bundle.new.source) (g.S.Source.given c.replay_bundle.new.source - g.S.Source.given c.args.input.now) (g.O.Sink.held c.args.out.now) (g.O.Sink.held c.replay_bundle.new.out) x) (sym c.tell-in-Some-Bundle.ensures.same) c.replay_bundle.ensures.report in
    subst (λ (i : ℕ). ReplaysBundle i (g.S.Source.left c.args.input.now) (g.S.Source.left c.replay_bundle.new.source) (g.S.Source.given c.replay_bundle.new.source - g.S.Source.given c.args.input.now) (g.O.Sink.held c.args.out.now) (g.O.Sink.held c.replay_bundle.new.out) c.tell-in-Some-Bundle.result) (same_number _ c.in-Some-Bundle.k k (sym c.command_of.ensures.value ∙ c.in-Some-Bundle.is ∙ ap (λ (k : Command). Some k) c.in-Some-Bundle.field-0-is) is) all

pub returns-in-Some-Bundle-clause-simulates : goal.returns-in-Some-Bundle-clause-simulates
returns-in-Some-Bundle-clause-simulates g c is =
    absurd (simulate_or_bundle _ c.in-Some-Bundle.k is (sym c.command_of.ensures.value ∙ c.in-Some-Bundle.is ∙ ap (λ (k : Command). Some k) c.in-Some-Bundle.field-0-is))

pub returns-in-Some-Bundle-clause-unsaid : goal.returns-in-Some-Bundle-clause-unsaid
returns-in-Some-Bundle-clause-unsaid g c is none =
    absurd (simulate_or_bundle _ c.in-Some-Bundle.k is (sym c.command_of.ensures.value ∙ c.in-Some-Bundle.is ∙ ap (λ (k : Command). Some k) c.in-Some-Bundle.field-0-is))

pub returns-in-Some-Bundle-clause-slices : goal.returns-in-Some-Bundle-clause-slices
returns-in-Some-Bundle-clause-slices g c is =
    absurd (slices_or_bundle _ c.in-Some-Bundle.k is (sym c.command_of.ensures.value ∙ c.in-Some-Bundle.is ∙ ap (λ (k : Command). Some k) c.in-Some-Bundle.field-0-is))

pub returns-in-Some-Bundle-clause-read_fault : goal.returns-in-Some-Bundle-clause-read_fault
returns-in-Some-Bundle-clause-read_fault g c is =
    c.replay_bundle.ensures.read_fault (sym c.tell-in-Some-Bundle.ensures.same ∙ is)

pub returns-in-Some-Bundle-clause-write_fault : goal.returns-in-Some-Bundle-clause-write_fault
returns-in-Some-Bundle-clause-write_fault g c is =
    c.replay_bundle.ensures.write_fault (sym c.tell-in-Some-Bundle.ensures.same ∙ is)

pub returns-in-Some-Bundle-clause-lawful : goal.returns-in-Some-Bundle-clause-lawful
returns-in-Some-Bundle-clause-lawful g c =
    c.journal_laws.ensures.lawful (g.S.Source.left c.args.input.now)

pub returns-in-Some-Bundle-clause-settled : goal.returns-in-Some-Bundle-clause-settled
returns-in-Some-Bundle-clause-settled g c =
    c.journal_laws.ensures.settled (g.S.Source.left c.args.input.now)

pub returns-in-Some-Bundle-clause-no_loss : goal.returns-in-Some-Bundle-clause-no_loss
returns-in-Some-Bundle-clause-no_loss g c =
    c.journal_laws.ensures.no_loss (g.S.Source.left c.args.input.now)

pub returns-in-Some-Bundle-clause-inert : goal.returns-in-Some-Bundle-clause-inert
returns-in-Some-Bundle-clause-inert g c =
    c.journal_laws.ensures.inert (g.S.Source.left c.args.input.now)

pub returns-in-Some-Bundle-clause-beside : goal.returns-in-Some-Bundle-clause-beside
returns-in-Some-Bundle-clause-beside g c =
    c.journal_laws.ensures.beside (g.S.Source.left c.args.input.now)

pub returns-in-Some-Bundle-clause-told : goal.returns-in-Some-Bundle-clause-told
returns-in-Some-Bundle-clause-told g c =
    c.tell-in-Some-Bundle.ensures.told

pub returns-in-None-clause-bundle : goal.returns-in-None-clause-bundle
returns-in-None-clause-bundle g c k is =
    absurd (none_bundles _ k (sym c.command_of.ensures.value ∙ c.in-None.is) is)

pub returns-in-Some-Replay-clause-bundle : goal.returns-in-Some-Replay-clause-bundle
returns-in-Some-Replay-clause-bundle g c k is =
    absurd (replay_or_bundle _ k (sym c.command_of.ensures.value ∙ c.in-Some-Replay.is ∙ ap (λ (x : Command). Some x) c.in-Some-Replay.field-0-is) is)

pub returns-in-Some-Generate-clause-bundle : goal.returns-in-Some-Generate-clause-bundle
returns-in-Some-Generate-clause-bundle g c k is =
    absurd (bundle_or_generate _ k c.in-Some-Generate.seed c.in-Some-Generate.count is (sym c.command_of.ensures.value ∙ c.in-Some-Generate.is ∙ ap (λ (x : Command). Some x) c.in-Some-Generate.field-0-is))

pub returns-in-Some-Simulate-clause-bundle : goal.returns-in-Some-Simulate-clause-bundle
returns-in-Some-Simulate-clause-bundle g c k is =
    absurd (simulate_or_bundle _ k (sym c.command_of.ensures.value ∙ c.in-Some-Simulate.is ∙ ap (λ (x : Command). Some x) c.in-Some-Simulate.field-0-is) is)

pub returns-in-Some-Slices-clause-bundle : goal.returns-in-Some-Slices-clause-bundle
returns-in-Some-Slices-clause-bundle g c k is =
    absurd (slices_or_bundle _ k (sym c.command_of.ensures.value ∙ c.in-Some-Slices.is ∙ ap (λ (x : Command). Some x) c.in-Some-Slices.field-0-is) is)

pub returns-in-None-clause-read_out : goal.returns-in-None-clause-read_out
returns-in-None-clause-read_out g c k is ok =
    absurd (none_bundles _ k (sym c.command_of.ensures.value ∙ c.in-None.is) is)

pub returns-in-Some-Replay-clause-read_out : goal.returns-in-Some-Replay-clause-read_out
returns-in-Some-Replay-clause-read_out g c k is ok =
    absurd (replay_or_bundle _ k (sym c.command_of.ensures.value ∙ c.in-Some-Replay.is ∙ ap (λ (x : Command). Some x) c.in-Some-Replay.field-0-is) is)

pub returns-in-Some-Generate-clause-read_out : goal.returns-in-Some-Generate-clause-read_out
returns-in-Some-Generate-clause-read_out g c k is ok =
    absurd (bundle_or_generate _ k c.in-Some-Generate.seed c.in-Some-Generate.count is (sym c.command_of.ensures.value ∙ c.in-Some-Generate.is ∙ ap (λ (x : Command). Some x) c.in-Some-Generate.field-0-is))

pub returns-in-Some-Simulate-clause-read_out : goal.returns-in-Some-Simulate-clause-read_out
returns-in-Some-Simulate-clause-read_out g c k is ok =
    absurd (simulate_or_bundle _ k (sym c.command_of.ensures.value ∙ c.in-Some-Simulate.is ∙ ap (λ (x : Command). Some x) c.in-Some-Simulate.field-0-is) is)

pub returns-in-Some-Slices-clause-read_out : goal.returns-in-Some-Slices-clause-read_out
returns-in-Some-Slices-clause-read_out g c k is ok =
    absurd (slices_or_bundle _ k (sym c.command_of.ensures.value ∙ c.in-Some-Slices.is ∙ ap (λ (x : Command). Some x) c.in-Some-Slices.field-0-is) is)

pub returns-in-Some-Bundle-clause-read_out : goal.returns-in-Some-Bundle-clause-read_out
returns-in-Some-Bundle-clause-read_out g c k is ok =
    c.replay_bundle.ensures.ended (sym c.tell-in-Some-Bundle.ensures.same ∙ ok)
