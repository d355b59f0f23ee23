-- Calls that make something of what a group stands for, one after the other.
use Rattle.std.proofs.Common.{◌≡◌, ◌<◌, ℕ, ◌++◌, List, [], append_assoc, append-nil, length, refl, ap, ◌∙◌, sym, subst}
use Rattle.kn_slices.specs.declared.change.Change.{Change}
use Rattle.std.specs.Prelude.{IfSome, None, Some, Option, OnOk, Result, Ok, Err}
use Rattle.kn_event.specs.declared.entry.Entry.{Entry}
use Rattle.kn_event.specs.declared.event.Event.{Event}
use Rattle.kn_io.specs.Prefix.{AppendsPrefix}
use Rattle.kn_slices.specs.Traces.{GroupState}
use Rattle.kn_activators.specs.Calls.{StepsOnly}
use Rattle.kn_activators.specs.Sharing.{Outcome, Sharing, and_then, by_one, force_lines, rows_at, said, stepped, unsaid, with_forces}
use Rattle.kn_activators.specs.Standing.{Came, Fails, IsSameReplay, Makes, ReplayState, Stands}
use Rattle.kn_report.specs.AddingLaws.{AddingLaws}
use Rattle.kn_report.specs.Waiting.{Adds, own_rows}

-- one activator's event, whose rows were then added
module _ (i : ℕ) (e : Event) (before mid now : ReplayState) (old new : Option (List ℕ)) (steps : StepsOnly before mid i e) where
  pub makes_one : now.group ≡ mid.group → Adds old new mid.waiting now.waiting (own_rows i mid.log) → Makes (λ x. by_one before.setup x i e) before now old new
  makes_one same adds x standing = record {
    stands = subst (λ (g : GroupState). Stands g (stepped before.setup x i e)) (sym same) (steps.stands x standing);
    adds = subst (λ (w : List ℕ). Adds old new w now.waiting (own_rows i (rows_at before.setup x i e))) steps.waiting
        (subst (λ (rows : List Entry). Adds old new mid.waiting now.waiting (own_rows i rows)) (steps.log x standing) adds);
  }

  pub fails_one : AppendsPrefix old new (mid.waiting ++ own_rows i mid.log) → Fails (λ x. by_one before.setup x i e) before old new
  fails_one some x standing =
      subst (λ (w : List ℕ). AppendsPrefix old new (w ++ own_rows i (rows_at before.setup x i e))) steps.waiting
      (subst (λ (rows : List Entry). AppendsPrefix old new (mid.waiting ++ own_rows i rows)) (steps.log x standing) some)

  pub same_one : now.setup ≡ mid.setup → now.before ≡ mid.before → now.group ≡ mid.group → IsSameReplay before now
  same_one setup kept same = record {
    setup = setup ∙ steps.same.setup;
    before = kept ∙ steps.same.before;
    parts = ap (λ (x : GroupState). length x.parts) same ∙ steps.same.parts;
  }

-- ---- one after the other

abbrev with_text : List ℕ → Sharing → Outcome
with_text t x = record { now = x; text = t }

said_said : (a b : List ℕ) (o : Outcome) → said a (said b o) ≡ said (a ++ b) o
said_said a b o = ap (λ (t : List ℕ). with_text t o.now) (sym (append_assoc a b o.text))

-- so far this text came, and what is still to come is the rest
pub record Going (whole : Outcome) (rest : Sharing → Outcome) (now : ReplayState) (waited : List ℕ) (old new : Option (List ℕ)) : Type 0 where
  pub here : Sharing
  pub text : List ℕ
  pub stands : Stands now.group here
  pub adds : Adds old new waited now.waiting text
  pub left : whole ≡ said text (rest here)

abbrev pub Goes : (Sharing → Outcome) → (Sharing → Outcome) → ReplayState → ReplayState → Option (List ℕ) → Option (List ℕ) → Type 0
Goes whole rest before now old new = (x : Sharing) → Stands before.group x → Going (whole x) rest now before.waiting old new

pub goes_begin : AddingLaws → (f : Sharing → Outcome) (a : ReplayState) (old : Option (List ℕ)) → Goes f f a a old old
goes_begin laws f a old x stands = record { here = x; text = []; stands = stands; adds = laws.nothing; left = refl }

pub goes_more : AddingLaws → (whole rest next one : Sharing → Outcome) (a b c : ReplayState) (o p q : Option (List ℕ)) → Goes whole rest a b o p
    → ((y : Sharing) → Stands b.group y → rest y ≡ and_then (one y) next) → Makes one b c p q → Goes whole next a c o q
goes_more laws whole rest next one a b c o p q goes opens makes x stands =
    let g = goes x stands in
    let m = makes g.here g.stands in
    record {
      here = (one g.here).now;
      text = g.text ++ (one g.here).text;
      stands = m.stands;
      adds = laws.more g.adds m.adds refl;
      left = g.left ∙ (ap (said g.text) (opens g.here g.stands) ∙ said_said g.text (one g.here).text (next (one g.here).now));
    }

pub goes_end : (whole rest : Sharing → Outcome) (a b : ReplayState) (o p : Option (List ℕ)) → Goes whole rest a b o p → ((y : Sharing) → Stands b.group y → rest y ≡ unsaid y) → Makes whole a b o p
goes_end whole rest a b o p goes end x stands =
    let g = goes x stands in
    let is : whole x ≡ said g.text (unsaid g.here) = g.left ∙ ap (said g.text) (end g.here g.stands) in
    let adds : Adds o p a.waiting b.waiting (g.text ++ []) = subst (Adds o p a.waiting b.waiting) (sym (append-nil g.text)) g.adds in
    record {
      stands = subst (λ (z : Outcome). Stands b.group z.now) (sym is) g.stands;
      adds = subst (λ (z : Outcome). Adds o p a.waiting b.waiting z.text) (sym is) adds;
    }

pub goes_cut : AddingLaws → (whole rest next one : Sharing → Outcome) (a b : ReplayState) (o p q : Option (List ℕ)) → Goes whole rest a b o p
    → ((y : Sharing) → Stands b.group y → rest y ≡ and_then (one y) next) → Fails one b p q → Fails whole a o q
goes_cut laws whole rest next one a b o p q goes opens fails x stands =
    let g = goes x stands in
    let texts : (whole x).text ≡ g.text ++ ((one g.here).text ++ (next (one g.here).now).text) = ap (λ (z : Outcome). z.text) (g.left ∙ ap (said g.text) (opens g.here g.stands)) in
    subst (λ (t : List ℕ). AppendsPrefix o q (a.waiting ++ t)) (sym texts)
    (laws.some q (one g.here).text (next (one g.here).now).text g.adds (fails g.here g.stands))

-- two calls
pub makes_both : AddingLaws → (f g : Sharing → Outcome) (a b c : ReplayState) (o p q : Option (List ℕ)) → Makes f a b o p → Makes g b c p q → Makes (λ x. and_then (f x) g) a c o q
makes_both laws f g a b c o p q first second x stands =
    let m = first x stands in
    let n = second (f x).now m.stands in
    record { stands = n.stands; adds = laws.more m.adds n.adds refl }

pub fails_second : AddingLaws → (f g : Sharing → Outcome) (a b : ReplayState) (o p q : Option (List ℕ)) → Makes f a b o p → Fails g b p q → Fails (λ x. and_then (f x) g) a o q
fails_second laws f g a b o p q first fails x stands =
    let m = first x stands in
    laws.last q (g (f x).now).text m.adds (fails (f x).now m.stands)

pub fails_first : AddingLaws → (f g : Sharing → Outcome) (a : ReplayState) (o q : Option (List ℕ)) → Fails f a o q → Fails (λ x. and_then (f x) g) a o q
fails_first laws f g a o q fails x stands = laws.behind o q a.waiting (f x).text (g (f x).now).text (fails x stands)

pub some_one : (o : Option Change) (n m pods : ℕ) → n ≡ m → IfSome o (λ x. (x.activator < n) × (x.pod < pods)) → IfSome o (λ x. x.activator < m)
some_one None n m pods e h = tt
some_one (Some x) n m pods e h = subst (λ k. x.activator < k) e h.0

pub same_on : (a b c : ReplayState) → IsSameReplay a b → IsSameReplay b c → IsSameReplay a c
same_on a b c first second = record { setup = second.setup ∙ first.setup; before = second.before ∙ first.before; parts = second.parts ∙ first.parts }

-- ---- a line: what was made, and then the limits in force that are others

module _ (laws : AddingLaws) (f : Sharing → Outcome) (time : ℕ) (a k b : ReplayState) (o p q : Option (List ℕ)) (same : k.group ≡ a.group) (waits : k.waiting ≡ a.waiting) where
  at_start : (x : Sharing) → Stands a.group x → Stands k.group x
  at_start x stands = subst (λ (z : GroupState). Stands z x) (sym same) stands

  module _ (kept : b.before ≡ a.group.force) (makes : Makes f k b o p) where
    came : (x : Sharing) → Stands a.group x → Came (f x) b a.waiting o p
    came x stands = subst (λ (w : List ℕ). Came (f x) b w o p) waits (makes x (at_start x stands))

    texts : (x : Sharing) → Stands a.group x → force_lines time 0 b.before b.group.force ≡ force_lines time 0 x.force (f x).now.force
    texts x stands = let m = came x stands in rw (kept, stands.force, m.stands.force) refl

    pub makes_line : (c : ReplayState) → c.group ≡ b.group → Adds p q b.waiting c.waiting (force_lines time 0 b.before b.group.force) → Makes (λ x. with_forces time x (f x)) a c o q
    makes_line c still adds x stands =
        let m = came x stands in
        let more = subst (Adds p q b.waiting c.waiting) (texts x stands) adds in
        record {
          stands = subst (λ (z : GroupState). Stands z (f x).now) (sym still) m.stands;
          adds = laws.more m.adds more refl;
        }

    pub fails_line : AppendsPrefix p q (b.waiting ++ force_lines time 0 b.before b.group.force) → Fails (λ x. with_forces time x (f x)) a o q
    fails_line some x stands =
        let m = came x stands in
        let more = subst (λ (t : List ℕ). AppendsPrefix p q (b.waiting ++ t)) (texts x stands) some in
        laws.last q (force_lines time 0 x.force (f x).now.force) m.adds more

  pub fails_made : Fails f k o q → Fails (λ x. with_forces time x (f x)) a o q
  fails_made fails x stands =
      laws.behind o q a.waiting (f x).text (force_lines time 0 x.force (f x).now.force) (subst (λ (w : List ℕ). AppendsPrefix o q (w ++ (f x).text)) waits (fails x (at_start x stands)))

pub on_every : {T E P : Type 0} (r : Result T E) → P → OnOk r P
on_every (Ok x) h = h
on_every (Err e) h = tt
