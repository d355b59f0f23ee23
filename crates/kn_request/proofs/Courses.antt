-- From the parts of a request's course to the whole.
use Rattle.std.proofs.Common.{◌≡◌, inl, inr, ℕ, true, List, [], ◌∷◌, ◌++◌, refl, sym, ap, ◌∙◌, subst, append_assoc}
use Rattle.std.proofs.lemmas.List.{append-nil}
use Rattle.std.specs.Prelude.{Option, Result, is_ok}
use Rattle.kn_event.specs.declared.event.Act.TheVariants as act
use Rattle.kn_event.specs.declared.event.Stand.{Stand}
use Rattle.kn_event.specs.declared.event.Stand.TheVariants as stand
use Rattle.kn_trace.specs.Outcome.{outcome_of}
use Rattle.kn_cell.specs.declared.past.Past.{Past}
use Rattle.kn_cell.specs.Shown.{PassView, Looks}
use Rattle.kn_io.specs.Links.{Link}
use Rattle.kn_io.specs.declared.links.LinkError.{LinkError}
use Rattle.kn_head.specs.declared.head.Head.{Head}
use Rattle.kn_request.specs.Laws.{is_left}
use Rattle.kn_request.specs.Sight.{IsAlone, IsLeft, StandsAt, sight}
use Rattle.kn_request.specs.Requests.{AreCancels, CallsPod, Cancels, Finishes, WasLost, WasRun}
use Rattle.kn_request.specs.Terms.{Terms}
use Rattle.kn_request.proofs.Later.{recorded_later}

pub record CancelRows (terms : Terms) (due r : ℕ) (old p : PassView) : Type 0 where
  pub rows : List Past
  pub are : AreCancels terms due r p rows
  pub mine : p.mine ≡ old.mine ++ rows

cancel_rows : (terms : Terms) (due r : ℕ) (old p : PassView) → Cancels terms due r old p → CancelRows terms due r old p
cancel_rows terms due r old p c = elim c [
  | inl e ↦ record { rows = []; are = inl refl; mine = e ∙ sym (append-nil old.mine) }
  | inr x ↦ record { rows = x.0.row ∷ []; are = inr (x.0, x.1, refl); mine = x.2 }
]

cancels_on : (terms : Terms) (due r : ℕ) (p q : PassView) (xs : List Past) → Looks p q → AreCancels terms due r p xs → AreCancels terms due r q xs
cancels_on terms due r p q xs l c = elim c [ inl e ↦ inl e | inr x ↦ inr (recorded_later terms.reading p q (act.Cancel r) l x.0, x.1, x.2) ]

pub ran_course : (terms : Terms) (due : ℕ) (head : Head) (r : ℕ) (p a q : PassView) (wire wire' : Option Link) (reply : Result (List ℕ) LinkError)
    → Looks a q → Cancels terms due r p a → CallsPod head wire wire' q r reply → Finishes terms.reading r (is_ok reply) a q
    → WasRun terms due head r p q wire wire' reply
ran_course terms due head r p a q wire wire' reply m c call f =
    let x = cancel_rows terms due r p a c in
    record {
      call = call;
      cancel = x.rows;
      cancel_is = cancels_on terms due r a q x.rows m x.are;
      finish = f.0;
      finish_is = f.1;
      mine = f.2 ∙ (ap (λ l. l ++ f.0) x.mine ∙ append_assoc p.mine x.rows f.0);
      ended = f.3;
    }

pub lost_course : (terms : Terms) (due r : ℕ) (p a : PassView) → Cancels terms due r p a → (IsLeft p r → IsAlone a r → IsLeft a r) → StandsAt a r stand.Ended → WasLost terms due r p a
lost_course terms due r p a c left ended =
    let x = cancel_rows terms due r p a c in
    record {
      cancel = x.rows;
      cancel_is = x.are;
      mine = x.mine;
      ended = ended;
      lapsed = λ old alone t s. subst (λ (st : Stand). is_left st (outcome_of (sight a t) r) ≡ true) (ended t s) (left old alone t s);
    }
