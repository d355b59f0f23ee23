-- The standing and the past decisions by further entries.
use Rattle.std.proofs.Common.{◌≡◌, ℕ, false, List, [], ◌∷◌, ◌++◌, map, refl, ap, ◌∙◌}
use Rattle.std.specs.Prelude.{Option, None, Some, option_map, unwrap_or}
use Rattle.std.specs.Option.{option_or, option_to_list}
use Rattle.std.specs.List.{cons_option, filter_map}
use Rattle.std.proofs.lemmas.List.Elements.{filter_map-append}
use Rattle.std.proofs.lemmas.List.{map-append}
use Rattle.kn_event.specs.declared.entry.Entry.{Entry}
use Rattle.kn_event.specs.declared.entry.Row.{Row}
use Rattle.kn_event.specs.declared.entry.Decision.{Decision}
use Rattle.kn_event.specs.declared.entry.Mode.{Mode}
use Rattle.kn_event.specs.declared.entry.Mode.TheVariants as mode
use Rattle.kn_event.specs.declared.revision.Spec.{Spec}
use Rattle.kn_trace.specs.Rows.{decision_by, mode_by, phase_by}
use Rattle.kn_trace.specs.Trace.{Trace, each_row, is_empty, last_of}
use Rattle.kn_trace.specs.Scale.{decided_by, mode_of, mode_since, opening_scale, phase_of, phase_since, start_of, times_of, wanted}
use Rattle.kn_past.specs.Changes.{time_by, want_by}

-- ---- the last of two lists

or_last : {X : Type 0} (x : X) (o p : Option X) → Some (unwrap_or (option_or o p) x) ≡ option_or o (Some (unwrap_or p x))
or_last x None p = refl
or_last x (Some y) p = refl

or_none : {X : Type 0} (o : Option X) → o ≡ option_or o None
or_none None = refl
or_none (Some x) = refl

pub last_of-append : {X : Type 0} (xs ys : List X) → last_of (xs ++ ys) ≡ option_or (last_of ys) (last_of xs)
last_of-append [] ys = or_none (last_of ys)
last_of-append {X} (x ∷ xs) ys = ap (λ (o : Option X). Some (unwrap_or o x)) (last_of-append xs ys) ∙ or_last x (last_of ys) (last_of xs)

or_default : {X : Type 0} (o p : Option X) (d : X) → unwrap_or (option_or o p) d ≡ unwrap_or o (unwrap_or p d)
or_default None p d = refl
or_default (Some x) p d = refl

last_default : {X : Type 0} (xs ys : List X) (d : X) → unwrap_or (last_of (xs ++ ys)) d ≡ unwrap_or (last_of ys) (unwrap_or (last_of xs) d)
last_default {X} xs ys d = ap (λ (o : Option X). unwrap_or o d) (last_of-append xs ys) ∙ or_default (last_of ys) (last_of xs) d

-- ---- by a list of entries

pub phase-append : (c es : Trace) → phase_of (c ++ es) ≡ option_or (phase_of es) (phase_of c)
unfolding phase_of
phase-append c es = ap last_of (filter_map-append (λ (e : Entry). phase_by e.row) c es) ∙ last_of-append (each_row phase_by c) (each_row phase_by es)

pub mode-append : (c es : Trace) → mode_of (c ++ es) ≡ unwrap_or (last_of (each_row mode_by es)) (mode_of c)
unfolding mode_of
mode-append c es =
    ap (λ (ms : List Mode). unwrap_or (last_of ms) mode.Proxy) (filter_map-append (λ (e : Entry). mode_by e.row) c es)
    ∙ last_default (each_row mode_by c) (each_row mode_by es) mode.Proxy

pub wanted-append : (s : Spec) (c es : Trace) → wanted s (c ++ es) ≡ unwrap_or (last_of (map (λ d. d.want) (each_row decision_by es))) (wanted s c)
unfolding wanted
wanted-append s c es =
    let want : Decision → ℕ = λ d. d.want in
    ap (λ (ds : List Decision). unwrap_or (last_of (map want ds)) (opening_scale s)) (filter_map-append (λ (e : Entry). decision_by e.row) c es)
    ∙ ap (λ (ns : List ℕ). unwrap_or (last_of ns) (opening_scale s)) (map-append want (each_row decision_by c) (each_row decision_by es))
    ∙ last_default (map want (each_row decision_by c)) (map want (each_row decision_by es)) (opening_scale s)

pub start-append : (c es : Trace) → is_empty c ≡ false → start_of (c ++ es) ≡ start_of c
start-append [] es h = absurd (cc)
start-append (e ∷ c) es h = refl

since-append : {X : Type 0} (said : Row → Option X) (c es : Trace) → is_empty c ≡ false
    → unwrap_or (last_of (times_of said (c ++ es))) (start_of (c ++ es)) ≡ unwrap_or (last_of (times_of said es)) (unwrap_or (last_of (times_of said c)) (start_of c))
since-append said c es h =
    ap (λ (t : ℕ). unwrap_or (last_of (times_of said (c ++ es))) t) (start-append c es h)
    ∙ ap (λ (ts : List ℕ). unwrap_or (last_of ts) (start_of c)) (filter_map-append (λ (e : Entry). option_map (λ x. e.time) (said e.row)) c es)
    ∙ last_default (times_of said c) (times_of said es) (start_of c)

pub phase_since-append : (c es : Trace) → is_empty c ≡ false → phase_since (c ++ es) ≡ unwrap_or (last_of (times_of phase_by es)) (phase_since c)
unfolding phase_since
phase_since-append c es h = since-append phase_by c es h

pub mode_since-append : (c es : Trace) → is_empty c ≡ false → mode_since (c ++ es) ≡ unwrap_or (last_of (times_of mode_by es)) (mode_since c)
unfolding mode_since
mode_since-append c es h = since-append mode_by c es h

pub decisions-append : (c es : Trace) → filter_map decided_by (c ++ es) ≡ filter_map decided_by c ++ filter_map decided_by es
decisions-append c es = filter_map-append decided_by c es

-- ---- by one entry

last_one : {X : Type 0} (o : Option X) → last_of (cons_option o []) ≡ o
last_one None = refl
last_one (Some x) = refl

pub option_list : {X : Type 0} (o : Option X) → cons_option o [] ≡ option_to_list o
option_list None = refl
option_list (Some x) = refl

pub phase-push : (c : Trace) (e : Entry) → phase_of (c ++ e ∷ []) ≡ option_or (phase_by e.row) (phase_of c)
unfolding phase_of
phase-push c e = phase-append c (e ∷ []) ∙ ap (λ o. option_or o (phase_of c)) (last_one (phase_by e.row))

pub mode-push : (c : Trace) (e : Entry) → mode_of (c ++ e ∷ []) ≡ unwrap_or (mode_by e.row) (mode_of c)
mode-push c e = mode-append c (e ∷ []) ∙ ap (λ o. unwrap_or o (mode_of c)) (last_one (mode_by e.row))

want_one : (o : Option Decision) → last_of (map (λ (d : Decision). d.want) (cons_option o [])) ≡ option_map (λ d. d.want) o
want_one None = refl
want_one (Some d) = refl

pub wanted-push : (s : Spec) (c : Trace) (e : Entry) → wanted s (c ++ e ∷ []) ≡ unwrap_or (want_by e.row) (wanted s c)
wanted-push s c e = wanted-append s c (e ∷ []) ∙ ap (λ o. unwrap_or o (wanted s c)) (want_one (decision_by e.row))

pub phase_since-push : (c : Trace) (e : Entry) → is_empty c ≡ false → phase_since (c ++ e ∷ []) ≡ unwrap_or (time_by phase_by e) (phase_since c)
phase_since-push c e h = phase_since-append c (e ∷ []) h ∙ ap (λ o. unwrap_or o (phase_since c)) (last_one (time_by phase_by e))

pub mode_since-push : (c : Trace) (e : Entry) → is_empty c ≡ false → mode_since (c ++ e ∷ []) ≡ unwrap_or (time_by mode_by e) (mode_since c)
mode_since-push c e h = mode_since-append c (e ∷ []) h ∙ ap (λ o. unwrap_or o (mode_since c)) (last_one (time_by mode_by e))

pub decisions-push : (c : Trace) (e : Entry) → filter_map decided_by (c ++ e ∷ []) ≡ filter_map decided_by c ++ option_to_list (decided_by e)
decisions-push c e = decisions-append c (e ∷ []) ∙ ap (λ ds. filter_map decided_by c ++ ds) (option_list (decided_by e))

first_since : {X : Type 0} (said : Row → Option X) (e : Entry) → unwrap_or (last_of (times_of said (e ∷ []))) e.time ≡ e.time
first_since {X} said e = by (said e.row)
  where
    by : (o : Option X) → unwrap_or (last_of (cons_option (option_map (λ x. e.time) o) [])) e.time ≡ e.time
    by None = refl
    by (Some x) = refl

pub first-entry : (e : Entry) → (start_of (e ∷ []) ≡ e.time) × (phase_since (e ∷ []) ≡ e.time) × (mode_since (e ∷ []) ≡ e.time)
unfolding phase_since mode_since
first-entry e = (refl, first_since phase_by e, first_since mode_by e)
