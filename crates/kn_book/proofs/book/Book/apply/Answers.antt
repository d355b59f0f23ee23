use Rattle.std.proofs.Common.{◌≡◌, ◌+◌, ◌∷◌, ◌++◌, length, drop, sym, ap, ◌∙◌, arith, false, ◌==◌}
use Rattle.std.proofs.lemmas.Bool.{eqb-true, false_from_ne_true}
use Rattle.std.proofs.lemmas.List.{drop_all, drop_more}
use Rattle.kn_event.specs.declared.entry.Entry.{Entry}
use Rattle.kn_trace.specs.Rows.{created_by}
use Rattle.kn_trace.specs.Trace.{each_row}
use Rattle.kn_book.specs.Book.{Book, noted, noted_all}
use Rattle.kn_book.specs.State.{BookState, state_of}
use Rattle.kn_book.proofs.States.{after-none, after-some, after-stands, counted-cons, length-noted}
use Rattle.kn_book.proofs.book.Book.apply.Goals as goal

pub returns-then-self-eq0-clause-after : goal.returns-then-self-eq0-clause-after
returns-then-self-eq0-clause-after c = after-none c.args.self.now c.args.entries.now (rw (← c.self.view_is) c.if-self-eq0.true)

pub returns-then-self-eq0-clause-stands : goal.returns-then-self-eq0-clause-stands
returns-then-self-eq0-clause-stands c d stands = returns-then-self-eq0-clause-after c ∙ after-stands c.args.self.now d c.args.entries.now stands

pub loop-entry-preserved : goal.loop-entry-preserved
loop-entry-preserved c =
    let i = c.loop-entry.invariant in
    let n = c.args.self.now.addresses in
    let es = c.args.entries.now in
    let k = c.loop-entry.entry-index in
    let e : Entry = c.entry-item.result in
    let first : drop k es ≡ e ∷ drop (k + 1) es = drop_more es k e c.loop-entry-test.true ∙ ap (λ (x : Entry). x ∷ drop (k + 1) es) (sym c.entry-item.is) in
    let new : c.note.new.self.holdings ≡ noted n e.row c.loop-entry.self.holdings = ap (λ (x : BookState). x.holdings) c.note.ensures ∙ ap (λ m. noted m e.row c.loop-entry.self.holdings) i.addresses in
    record {
      addresses = ap (λ (x : BookState). x.addresses) c.note.ensures ∙ i.addresses;
      some = i.some;
      noted = ap (λ (b : Book). noted_all n (drop (k + 1) es) b) new ∙ sym (ap (λ l. noted_all n l c.loop-entry.self.holdings) first) ∙ i.noted;
      room =
          let more = length-noted n e.row c.loop-entry.self.holdings in
          let count = counted-cons e (drop (k + 1) es) in
          let same : length (each_row created_by (drop k es)) ≡ length (each_row created_by (e ∷ drop (k + 1) es)) = ap (λ l. length (each_row created_by l)) first in
          let as_many : length c.note.new.self.holdings ≡ length (noted n e.row c.loop-entry.self.holdings) = ap (λ (b : Book). length b) new in
          omega (arith, i.room);
    }

pub returns-clause-after : goal.returns-clause-after
returns-clause-after c =
    let i = c.loop-entry.invariant in
    let n = c.args.self.now.addresses in
    let es = c.args.entries.now in
    let k = c.loop-entry.entry-index in
    let done : c.loop-entry.self.holdings ≡ noted_all n es c.args.self.now.holdings = sym (ap (λ l. noted_all n l c.loop-entry.self.holdings) (drop_all k es c.loop-entry-test.false)) ∙ i.noted in
    let some : (n == 0) ≡ false = false_from_ne_true (n == 0) (λ e. i.some (eqb-true n 0 e)) in
    let state : c.loop-entry.self ≡ record { addresses = n; holdings = c.loop-entry.self.holdings } = ap (λ m. record { addresses = m; holdings = c.loop-entry.self.holdings }) i.addresses in
    state ∙ after-some c.args.self.now es c.loop-entry.self.holdings some done

pub returns-clause-stands : goal.returns-clause-stands
returns-clause-stands c d stands =
    let i = c.loop-entry.invariant in
    returns-clause-after c ∙ after-stands c.args.self.now d c.args.entries.now stands ∙ ap (λ n. state_of n (d ++ c.args.entries.now)) (sym i.addresses)
