-- What stays of a pass from round to round.
use Rattle.std.proofs.Common.{◌≡◌, ◌⊎◌, inl, inr, ℕ, ◌+◌, ◌≤◌, false, List, length, [], ◌∷◌, refl, sym, ap, ◌∙◌, subst}
use Rattle.std.proofs.lemmas.List.{append-nil}
use Rattle.kn_event.specs.declared.revision.Spec.{Spec}
use Rattle.kn_cell.specs.Lists.{StartsWith}
use Rattle.kn_cell.specs.Shown.{Looks, LooksBy, PassView}
use Rattle.kn_request.specs.declared.slot.Served.{Served}
use Rattle.kn_request.specs.Terms.{Terms}
use Rattle.kn_session.specs.Passes.{Kind, kind_of}
use Rattle.kn_session.specs.Rounds.{IsRounds, Sides}
use Rattle.kn_session.proofs.ListFacts.{starts_trans}

pub record IsNext (p q : PassView) : Type 0 where
  pub free : q.free ≡ p.free
  pub back : q.back ≡ p.back
  pub number : q.number ≡ p.number
  pub others : q.others ≡ p.others
  pub cell : q.cell ≡ p.cell
  pub kind : kind_of q ≡ kind_of p
  pub passes : q.passes ≡ p.passes
  pub scribe : q.scribe ≡ p.scribe
  pub longer : StartsWith q.seen p.seen
  pub whole : p.lasting ≡ false → p.gone ≡ 0 → q.gone ≡ 0
  pub most : p.gone ≤ length p.seen → q.gone ≤ length q.seen

pub next_by : (given : ℕ) (p q : PassView) → (q ≡ p) ⊎ LooksBy given p q → IsNext p q
next_by given p q so = elim so [ inl e ↦ subst (IsNext p) (sym e) (itself p) | inr l ↦ looked l ]
  where
    itself : (v : PassView) → IsNext v v
    itself v = record { free = refl; back = refl; number = refl; others = refl; cell = refl; kind = refl; passes = refl; scribe = refl; longer = ([], sym (append-nil v.seen)); whole = λ e f. f; most = λ e. e }

    looked : LooksBy given p q → IsNext p q
    looked l = record {
      free = ap (λ (v : PassView). v.free) l.same;
      back = ap (λ (v : PassView). v.back) l.same;
      number = ap (λ (v : PassView). v.number) l.same;
      others = ap (λ (v : PassView). v.others) l.same;
      cell = ap (λ (v : PassView). v.cell) l.same;
      kind = ap kind_of l.same;
      passes = ap (λ (v : PassView). v.passes) l.same;
      scribe = ap (λ (v : PassView). v.scribe) l.same;
      longer = l.longer;
      whole = λ e f. l.plain e;
      most = λ e. l.most;
    }

pub next_of : (p q : PassView) → (q ≡ p) ⊎ Looks p q → IsNext p q
next_of p q so = next_by 0 p q so

next_trans : (p q s : PassView) → IsNext p q → IsNext q s → IsNext p s
next_trans p q s a b = record {
  free = b.free ∙ a.free;
  back = b.back ∙ a.back;
  number = b.number ∙ a.number;
  others = b.others ∙ a.others;
  cell = b.cell ∙ a.cell;
  kind = b.kind ∙ a.kind;
  passes = b.passes ∙ a.passes;
  scribe = b.scribe ∙ a.scribe;
  longer = starts_trans p.seen q.seen s.seen a.longer b.longer;
  whole = λ e f. b.whole (ap (λ (k : Kind). k.lasting) a.kind ∙ e) (a.whole e f);
  most = λ e. b.most (a.most e);
}

pub rounds_next : (Then : PassView → Type 0) (terms : ℕ → ℕ → Terms) (spec : Spec) (tag : ℕ) (ss : List Served) (p q : PassView) (a b : Sides) → IsRounds Then terms spec tag ss p q a b → IsNext p q
rounds_next Then terms spec tag [] p q a b r = next_of p q (inl r.0)
rounds_next Then terms spec tag (s ∷ ss) p q a b r = next_trans p r.0 q (next_of p r.0 r.2.later) (rounds_next Then terms spec (tag + 1) ss r.0 q r.1 b r.3)
