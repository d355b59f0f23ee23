-- A limit that several activators share: its slices, what they hold of it, and which change is due. An activator is whatever has a
-- limit at each pod and requests that run there: `limit p a`, `running p a`. So the words are the same of the activators' traces and
-- of what is kept of them.
use Rattle.std.specs.Prelude.{ℕ, ◌+◌, ◌-◌, ◌/◌, ◌%◌, ◌==◌, ◌&&◌, nat_lt, nat_le, not, max, Bool, true, false, List, [], ◌∷◌, Option, None, Some, if◌then◌else◌, sum_by}
use Rattle.kn_event.specs.Lists.{or_else}
use Rattle.kn_slices.specs.declared.change.Change.{Change}

-- the slice of activator i of n
abbrev pub slice_of : ℕ → ℕ → ℕ → ℕ
slice_of limit i n = limit / n + (if nat_lt i (limit % n) then 1 else 0)

-- what the activators hold of a pod: of each the greater of its limit there and of how many of its requests run there
abbrev pub hold : {A : Type 0} → (A → ℕ) → (A → ℕ) → List A → ℕ
hold limit running parts = sum_by (λ a. max (limit a) (running a)) parts

-- how many run there
abbrev pub runs : {A : Type 0} → (A → ℕ) → List A → ℕ
runs running parts = sum_by running parts

-- the limit in force after a call: what is wanted, where no more is held
abbrev pub force_after : ℕ → ℕ → ℕ → ℕ
force_after held wanted force = if nat_le held wanted then wanted else force

-- of the pods from p on, whose limits are wanted and in force so: those in force after a call
abbrev pub forces_from : {A : Type 0} → (ℕ → A → ℕ) → (ℕ → A → ℕ) → List A → ℕ → List ℕ → List ℕ → List ℕ
forces_from limit running parts p (w ∷ ws) (f ∷ fs) = force_after (hold (limit p) (running p) parts) w f ∷ forces_from limit running parts (p + 1) ws fs
forces_from limit running parts p _ _ = []

-- ---- the due change

-- the first answer of the test, over these members from place i on
abbrev pub first_from : {A X : Type 0} → (ℕ → A → Option X) → ℕ → List A → Option X
first_from test i [] = None
first_from test i (a ∷ rest) = or_else (test i a) (first_from test (i + 1) rest)

abbrev pub change_where : Bool → Change → Option Change
change_where true x = Some x
change_where false x = None

abbrev pub change : ℕ → ℕ → ℕ → Change
change i p limit = record { activator = i; pod = p; limit = limit }

-- a cut is possible where an activator's limit is above its slice
abbrev pub cut_at : {A : Type 0} → (A → ℕ) → ℕ → ℕ → ℕ → ℕ → A → Option Change
cut_at limit n wanted p i a = change_where (nat_lt (slice_of wanted i n) (limit a)) (change i p (slice_of wanted i n))

-- a raise is possible where its limit is below its slice, and what is held would then be within what is wanted
abbrev pub raise_at : {A : Type 0} → (A → ℕ) → (A → ℕ) → ℕ → ℕ → ℕ → ℕ → ℕ → A → Option Change
raise_at limit running held n wanted p i a =
    change_where (nat_lt (limit a) (slice_of wanted i n) && nat_le (held - max (limit a) (running a) + max (slice_of wanted i n) (running a)) wanted)
    (change i p (slice_of wanted i n))

abbrev pub cut_of : {A : Type 0} → (ℕ → A → ℕ) → ℕ → List A → ℕ → ℕ → Option Change
cut_of limit n parts p wanted = first_from (cut_at (limit p) n wanted p) 0 parts

abbrev pub raise_of : {A : Type 0} → (ℕ → A → ℕ) → (ℕ → A → ℕ) → ℕ → List A → ℕ → ℕ → Option Change
raise_of limit running n parts p wanted = first_from (raise_at (limit p) (running p) (hold (limit p) (running p) parts) n wanted p) 0 parts

-- of so many activators the first possible cut, by pods and then by activators; where there is none, the first possible raise
abbrev pub due_change : {A : Type 0} → (ℕ → A → ℕ) → (ℕ → A → ℕ) → ℕ → List A → List ℕ → Option Change
due_change limit running n parts wanted =
    or_else (first_from (cut_of limit n parts) 0 wanted) (first_from (raise_of limit running n parts) 0 wanted)

-- ---- limits that aren't what they are to become

-- how many of these members, from place i on, pass the test
abbrev pub count_from : {A : Type 0} → (ℕ → A → Bool) → ℕ → List A → ℕ
count_from test i [] = 0
count_from test i (a ∷ rest) = (if test i a then 1 else 0) + count_from test (i + 1) rest

-- at how many pods the limit of activator i of n isn't its slice
abbrev pub unset : {A : Type 0} → (ℕ → A → ℕ) → ℕ → ℕ → List ℕ → A → ℕ
unset limit n i wanted a = count_from (λ p w. not (limit p a == slice_of w i n)) 0 wanted

-- for how many of n activators a pod's limit isn't their slice
abbrev pub unset_at : {A : Type 0} → (A → ℕ) → ℕ → ℕ → List A → ℕ
unset_at limit n wanted parts = count_from (λ i a. not (limit a == slice_of wanted i n)) 0 parts
