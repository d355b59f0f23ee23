-- A request that runs is finished.
use Rattle.std.proofs.Common.{◌≡◌, ◌≢◌, ℕ, true, List, [], ◌∷◌, ◌++◌, Bool, refl, sym, ap, ◌∙◌, subst, arith}
use Rattle.std.specs.Prelude.{◌==◌}
use Rattle.std.proofs.lemmas.List.{append-nil, append_cancel_left, append_cancel_right}
use Rattle.std.proofs.lemmas.List.Elements.{filter-append}
use Rattle.kn_event.specs.declared.event.Act.TheVariants as act
use Rattle.kn_event.specs.declared.event.Told.{Told}
use Rattle.kn_trace.specs.Outcome.{outcome_of}
use Rattle.kn_trace.specs.Trace.{Trace, stand_of}
use Rattle.kn_sizes.specs.Course.{runs_by}
use Rattle.kn_core.specs.State.{StandsFor}
use Rattle.kn_cell.specs.declared.past.Past.{Past}
use Rattle.kn_cell.specs.declared.past.Full.{Full}
use Rattle.kn_cell.specs.Lists.{Each}
use Rattle.kn_cell.specs.History.{rows_by, trace_after}
use Rattle.kn_cell.specs.Shown.{PassView, Looks, RecordsLast, Misfits}
use Rattle.kn_request.specs.Laws.{RequestLaws}
use Rattle.kn_request.specs.Sight.{IsAlone, IsOwn, IsRunning, sight}
use Rattle.kn_request.specs.Requests.{IsFinished}
use Rattle.kn_request.proofs.Lists.{by_whom, each_left, each_right, none, rows_by-own, trace_after-append}
use Rattle.kn_request.proofs.Later.{SparesIt, added_last, along, made_after, made_seen, number_is, recorded_of, runs_later, sight_is, spares_of, stands_is}

-- the rows between what was seen and this call's own row are of other passes
between : (n : ℕ) (seen more mine : List Past) (row : Past) → rows_by n ((seen ++ more) ++ row ∷ []) ≡ mine ++ row ∷ [] → mine ≡ rows_by n seen → row.pass ≡ n → rows_by n more ≡ []
between n seen more mine row whole own is =
    let a : rows_by n (seen ++ more) ++ row ∷ [] ≡ mine ++ row ∷ [] = sym (rows_by-own n (seen ++ more) row is) ∙ whole in
    let b : rows_by n (seen ++ more) ≡ mine = append_cancel_right (rows_by n (seen ++ more)) mine (row ∷ []) a in
    let d : rows_by n seen ++ rows_by n more ≡ rows_by n seen ++ [] = sym (filter-append (λ (x : Past). x.pass == n) seen more) ∙ (b ∙ (own ∙ sym (append-nil (rows_by n seen)))) in
    append_cancel_left (rows_by n seen) (rows_by n more) [] d

-- nobody ended the request before the call's own row
quiet_before : (r : ℕ) (p q : PassView) (more : List Past) (row : Past) → Looks p q → IsOwn p → q.seen ≡ (p.seen ++ more) ++ row ∷ [] → q.mine ≡ p.mine ++ row ∷ [] → row.pass ≡ p.number → IsAlone q r
    → Each (SparesIt r) more
quiet_before r p q more row l own seen mine pass alone =
    let whole : rows_by p.number ((p.seen ++ more) ++ row ∷ []) ≡ p.mine ++ row ∷ [] = ap (rows_by p.number) (sym seen) ∙ (sym l.own ∙ mine) in
    let no_own : rows_by p.number more ≡ [] = between p.number p.seen more p.mine row whole own pass in
    let P : Past → Type 0 = λ z. z.pass ≢ p.number → SparesIt r z in
    let others : Each P q.seen = (λ i z at ne. spares_of r z (l.bounds i z at) (alone i z at (λ e. ne (e ∙ number_is p q l))).0) in
    let others' : Each P more = each_right P p.seen more (each_left P (p.seen ++ more) (row ∷ []) (subst (Each P) seen others)) in
    by_whom (SparesIt r) p.number more others' (subst (Each (SparesIt r)) (sym no_own) (none (SparesIt r)))

pub ok_finished : RequestLaws → (reading : ℕ → Type 0) (r time : ℕ) (ok : Bool) (told : Told) (p q : PassView) (l : Looks p q) (x : RecordsLast p (act.Finish r ok) time told q) (now : reading time)
    → IsOwn p → IsRunning p r → IsAlone q r → (c : Trace) → StandsFor q.opening c
    → IsFinished reading r ok q ((recorded_of reading p q (act.Finish r ok) time told l x now).row ∷ []) c
ok_finished laws reading r time ok told p q l x now own runs alone c s =
    let spec = p.opening.spec in
    let pass : x.row.pass ≡ p.number = ap (λ (z : Past). z.pass) x.row_is in
    let act_is : x.row.event.act ≡ act.Finish r ok = ap (λ (z : Past). z.event.act) x.row_is in
    let more = x.longer.0 in
    let seen_is : q.seen ≡ (p.seen ++ more) ++ x.row ∷ [] = x.seen ∙ ap (λ h. h ++ x.row ∷ []) x.longer.1 in
    let quiet : Each (SparesIt r) more = quiet_before r p q more x.row l own seen_is x.mine pass alone in
    let s' = stands_is p q l c s in
    let P : Trace → Type 0 = λ d. runs_by (stand_of d r) ≡ true in
    let at_front : P (trace_after spec (sight p c) more) = along laws spec P (SparesIt r) (λ d y m not u. laws.runs spec d y.event r m not u) more quiet (sight p c) (made_seen laws p c s') (runs c s') in
    let front_is : trace_after spec (sight p c) more ≡ trace_after spec c x.front = sym (ap (trace_after spec c) x.longer.1 ∙ trace_after-append spec c p.seen more) in
    let f = trace_after spec c x.front in
    let made = made_after laws spec x.front c (laws.made p.opening c s') in
    let ends = laws.ends spec f x.row.event r ok made act_is (subst P front_is at_front) in
    let last = added_last p q (act.Finish r ok) time told l x c in
    record {
      finish = recorded_of reading p q (act.Finish r ok) time told l x now;
      rows = refl;
      ended = ap (λ t. stand_of t r) last ∙ ends.0;
      by = ap (λ t. outcome_of t r) last ∙ ends.1;
    }

pub full_finished : RequestLaws → (reading : ℕ → Type 0) (r : ℕ) (ok : Bool) (full : Full) (p q : PassView) (xs : List Past) → Looks p q → Misfits p (act.Finish r ok) full q
    → IsOwn p → IsRunning p r → IsAlone q r → (c : Trace) → StandsFor q.opening c → IsFinished reading r ok q xs c
full_finished laws reading r ok full p q xs l x own runs alone c s =
    let spec = p.opening.spec in
    let t = trace_after spec c q.seen in
    let s' = stands_is p q l c s in
    let run = runs_later laws r p q [] l own (x.mine ∙ sym (append-nil p.mine)) (none (SparesIt r)) runs alone c s in
    let run' : runs_by (stand_of t r) ≡ true = ap (λ d. runs_by (stand_of d r)) (sym (sight_is p q l c)) ∙ run in
    let n = laws.finish_need spec t r ok (made_after laws spec q.seen c (laws.made p.opening c s')) run' in
    let m = x.short c s' in
    absurd (omega (arith, n, m))
