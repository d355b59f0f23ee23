-- The views of requests are the record's.
use Rattle.std.proofs.Common.{◌≡◌, ℕ, Bool, true, false, not, cond, List, [], ◌∷◌, refl, ap, map}
use Rattle.std.specs.Prelude.{Option, None, Some}
use Rattle.std.specs.Bool.{then_some}
use Rattle.std.specs.List.{filter, filter_map, cons_option}
use Rattle.kn_event.specs.declared.entry.Entry.{Entry}
use Rattle.kn_record.specs.declared.admission.Place.{Place}
use Rattle.kn_record.specs.declared.admission.Request.{Request}
use Rattle.kn_trace.specs.Rows.{taken_by}
use Rattle.kn_trace.specs.Trace.{Trace, each_row, ended, live}
use Rattle.kn_record.specs.Admission.{place_of, placed, request_of, live_requests, placed_in}

-- the live requests' numbers
pub live-requests : (c : Trace) → live c ≡ map (λ (q : Request). q.number) (live_requests c)
unfolding live live_requests request_of
live-requests c = from c
  where
    from : (d : Trace) → filter (λ r. not (ended c r)) (each_row taken_by d) ≡ map (λ (q : Request). q.number) (filter_map (λ (e : Entry). request_of c e.time (taken_by e.row)) d)
    from [] = refl
    from (e ∷ d) = by (taken_by e.row) (from d)
      where
        step : (r : ℕ) (b : Bool) (p : Place) (us : List ℕ) (vs : List Request) → us ≡ map (λ (q : Request). q.number) vs
            → cond b (r ∷ us) us ≡ map (λ (q : Request). q.number) (cons_option (then_some b (record { number = r; time = e.time; place = p })) vs)
        step r true p us vs h = ap (λ (l : List ℕ). r ∷ l) h
        step r false p us vs h = h

        by : (o : Option ℕ) → filter (λ r. not (ended c r)) (each_row taken_by d) ≡ map (λ (q : Request). q.number) (filter_map (λ (e : Entry). request_of c e.time (taken_by e.row)) d)
            → filter (λ r. not (ended c r)) (cons_option o (each_row taken_by d)) ≡ map (λ (q : Request). q.number) (cons_option (request_of c e.time o) (filter_map (λ (e : Entry). request_of c e.time (taken_by e.row)) d))
        by None rest = rest
        by (Some r) rest = step r (not (ended c r)) (place_of c r) _ _ rest

-- the live requests whose place passes a test
pub placed-requests : (test : Place → Bool) (c : Trace) → placed test c ≡ placed_in test (live_requests c)
unfolding placed live live_requests request_of
placed-requests test c = from c
  where
    from : (d : Trace) → filter (λ r. test (place_of c r)) (filter (λ r. not (ended c r)) (each_row taken_by d)) ≡ placed_in test (filter_map (λ (e : Entry). request_of c e.time (taken_by e.row)) d)
    from [] = refl
    from (e ∷ d) = by (taken_by e.row) (from d)
      where
        step : (r : ℕ) (b x : Bool) (us : List ℕ) (vs : List Request) → test (place_of c r) ≡ x → filter (λ r. test (place_of c r)) us ≡ placed_in test vs
            → filter (λ r. test (place_of c r)) (cond b (r ∷ us) us) ≡ placed_in test (cons_option (then_some b (record { number = r; time = e.time; place = place_of c r })) vs)
        step r true true us vs t h = rw (t) (ap (λ (l : List ℕ). r ∷ l) h)
        step r true false us vs t h = rw (t) h
        step r false x us vs t h = h

        by : (o : Option ℕ) → filter (λ r. test (place_of c r)) (filter (λ r. not (ended c r)) (each_row taken_by d)) ≡ placed_in test (filter_map (λ (e : Entry). request_of c e.time (taken_by e.row)) d)
            → filter (λ r. test (place_of c r)) (filter (λ r. not (ended c r)) (cons_option o (each_row taken_by d))) ≡ placed_in test (cons_option (request_of c e.time o) (filter_map (λ (e : Entry). request_of c e.time (taken_by e.row)) d))
        by None rest = rest
        by (Some r) rest = step r (not (ended c r)) (test (place_of c r)) _ _ refl rest
