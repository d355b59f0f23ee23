-- From the steps of a connection to what is told of it.
use Rattle.std.proofs.Common.{◌≡◌, ◌≤◌, ℕ, List, [], ◌∷◌, ◌++◌, true, refl, ap, ◌∙◌, subst, append_assoc, arith}
use Rattle.std.proofs.lemmas.List.{append_cancel_right}
use Rattle.std.specs.Prelude.{Option, None, Some, IfSome, ⊤}
use Rattle.std.specs.Io.KnownBytes.{Appends}
use Rattle.kn_io.specs.Callers.{IsHeard, IsPaired, Meets, every_second, followed, streams_of, texts_of, told_as}
use Rattle.kn_io.specs.Causes.{Rose}
use Rattle.kn_request.specs.Outside.{Said, Tells, said}
use Rattle.kn_page.specs.Visits.{Comes}

-- ---- what is told

some_said : (a b : Said) → Some a ≡ Some b → a ≡ b
some_said a b e = cc

kept_is : (k : Option (List (List ℕ))) (h : Option (List ℕ)) (a : Said) → said k h ≡ Some a → k ≡ Some a.kept
kept_is None None a e = absurd (cc)
kept_is None (Some h) a e = absurd (cc)
kept_is (Some k) None a e = absurd (cc)
kept_is (Some k) (Some h) a e = ap (λ (s : Said). Some s.kept) (some_said (record { kept = k; text = h }) a e)

text_is : (k : Option (List (List ℕ))) (h : Option (List ℕ)) (a : Said) → said k h ≡ Some a → h ≡ Some a.text
text_is None None a e = absurd (cc)
text_is None (Some h) a e = absurd (cc)
text_is (Some k) None a e = absurd (cc)
text_is (Some k) (Some h) a e = ap (λ (s : Said). Some s.text) (some_said (record { kept = k; text = h }) a e)

said_is : (k : Option (List (List ℕ))) (h : Option (List ℕ)) (x : List (List ℕ)) (y : List ℕ) → k ≡ Some x → h ≡ Some y → said k h ≡ Some record { kept = x; text = y }
said_is k h x y e f = ap (λ t. said t h) e ∙ ap (said (Some x)) f

some_bytes : (x y : List ℕ) → Some x ≡ Some y → x ≡ y
some_bytes x y e = cc

appended : (h h' : Option (List ℕ)) (x bytes : List ℕ) → h ≡ Some x → Appends h h' bytes → h' ≡ Some (x ++ bytes)
appended None h' x bytes e a = absurd (cc)
appended (Some y) None x bytes e a = absurd a
appended (Some y) (Some z) x bytes e a = ap Some a ∙ ap (λ o. Some (o ++ bytes)) (some_bytes y x e)

-- ---- reading leaves what was written

first_of_two : {A : Type 0} (x y : A) (xs ys : List A) → x ∷ xs ≡ y ∷ ys → x ≡ y
first_of_two x y xs ys e = cc

rest_of_two : {A : Type 0} (x y : A) (xs ys : List A) → x ∷ xs ≡ y ∷ ys → xs ≡ ys
rest_of_two x y xs ys e = cc

last_same : {A : Type 0} (xs ys : List A) (x y : A) → xs ++ x ∷ [] ≡ ys ++ y ∷ [] → (xs ≡ ys) × (x ≡ y)
last_same [] [] x y e = (refl, first_of_two x y [] [] e)
last_same [] (z ∷ []) x y e = absurd (cc)
last_same [] (z ∷ w ∷ zs) x y e = absurd (cc)
last_same (z ∷ []) [] x y e = absurd (cc)
last_same (z ∷ w ∷ zs) [] x y e = absurd (cc)
last_same (v ∷ xs) (w ∷ ys) x y e =
    let r = last_same xs ys x y (rest_of_two v w (xs ++ x ∷ []) (ys ++ y ∷ []) e) in
    let f = first_of_two v w (xs ++ x ∷ []) (ys ++ y ∷ []) e in
    (ap (λ a. a ∷ xs) f ∙ ap (λ l. w ∷ l) r.0, r.1)

some_texts : (x y : List (List ℕ)) → Some x ≡ Some y → x ≡ y
some_texts x y e = cc

pub said_stays : (k k' : Option (List (List ℕ))) (h h' : Option (List ℕ)) → followed k' h' ≡ followed k h → said k' h' ≡ said k h
said_stays None None None None e = refl
said_stays None None None (Some h') e = refl
said_stays None None (Some h) None e = refl
said_stays None None (Some h) (Some h') e = refl
said_stays None (Some k') None None e = refl
said_stays None (Some k') None (Some h') e = absurd (cc)
said_stays None (Some k') (Some h) None e = refl
said_stays None (Some k') (Some h) (Some h') e = absurd (cc)
said_stays (Some k) None None None e = refl
said_stays (Some k) None None (Some h') e = refl
said_stays (Some k) None (Some h) None e = absurd (cc)
said_stays (Some k) None (Some h) (Some h') e = absurd (cc)
said_stays (Some k) (Some k') None None e = refl
said_stays (Some k) (Some k') None (Some h') e = absurd (cc)
said_stays (Some k) (Some k') (Some h) None e = absurd (cc)
said_stays (Some k) (Some k') (Some h) (Some h') e =
    let l = last_same k' k h' h (some_texts (k' ++ h' ∷ []) (k ++ h ∷ []) e) in
    ap (λ x. Some record { kept = x; text = h' }) l.0 ∙ ap (λ y. Some record { kept = k; text = y }) l.1

-- ---- a connection

-- the texts were told, so the input is
input_read : (kept : Option (List (List ℕ))) (left left' : Option (List ℕ)) (texts : List (List ℕ)) (input : List ℕ) (P : List ℕ → Type 0) → kept ≡ Some texts → IsHeard kept left → left' ≡ told_as input left
    → IfSome left' P → P input
input_read None left left' texts input P told heard e reads = absurd (cc)
input_read (Some t) None left' texts input P told heard e reads = absurd heard
input_read (Some t) (Some l) left' texts input P told heard e reads = subst (λ o. IfSome o P) e reads

pub tells_on : (a b : Option Said) (P Q : Said → Said → Type 0) → ((x y : Said) → P x y → Q x y) → Tells a b P → Tells a b Q
tells_on a b P Q f h x e = let r = h x e in (r.0, r.1, f x r.0 r.2)

module _ (law_texts : (kept : List (List ℕ)) (held input : List ℕ) → IsPaired (Some kept) → texts_of (kept ++ held ∷ input ∷ []) [] ≡ texts_of kept held ++ [] ∷ [])
    (law_streams : (kept : List (List ℕ)) (held input : List ℕ) → IsPaired (Some kept) → streams_of (kept ++ held ∷ input ∷ []) ≡ streams_of kept ++ input ∷ []) where
  -- one text and one stream more
  abbrev comes_of : (a b : Said) (input : List ℕ) → IsPaired (Some a.kept) → b.kept ≡ a.kept ++ a.text ∷ input ∷ [] → Comes a b
  comes_of a b input paired kept = record {
    input = input;
    kept = kept;
    texts =
        let e = append_cancel_right (every_second true (a.kept ++ a.text ∷ input ∷ [])) (texts_of a.kept a.text) ([] ∷ []) (law_texts a.kept a.text input paired) in
        ap (λ l. l ++ b.text ∷ []) (ap (every_second true) kept ∙ e);
    streams = ap streams_of kept ∙ law_streams a.kept a.text input paired;
  }

  pub talks : (k0 k1 k2 k3 : Option (List (List ℕ))) (h0 h1 h2 h3 l0 l1 : Option (List ℕ)) (P : List ℕ → Type 0) (bytes : List ℕ) → IsPaired k0 → IsHeard k0 l0 → Meets k0 k1 h0 h1 l0 l1
      → followed k2 h2 ≡ followed k1 h1 → k3 ≡ k2 → Appends h2 h3 bytes → IfSome l1 P → Tells (said k0 h0) (said k3 h3) (λ a b. (c : Comes a b) × P c.input × (b.text ≡ bytes))
  talks k0 k1 k2 k3 h0 h1 h2 h3 l0 l1 P bytes paired heard m same still app reads a e =
      let input = m.0 in
      let ke = kept_is k0 h0 a e in
      let te = text_is k0 h0 a e in
      let k = (a.kept ++ a.text ∷ []) ++ input ∷ [] in
      let kept1 : k1 ≡ Some k = m.1.grown ∙ (ap (λ t. followed (followed t h0) (Some input)) ke ∙ ap (λ t. followed (followed (Some a.kept) t) (Some input)) te) in
      let held1 : h1 ≡ Some [] = m.1.emptied ∙ ap (told_as []) te in
      let met : Said = record { kept = k; text = [] } in
      let is : said k2 h2 ≡ Some met = said_stays k1 k2 h1 h2 same ∙ said_is k1 h1 k [] kept1 held1 in
      let kept3 : k3 ≡ Some k = still ∙ kept_is k2 h2 met is in
      let held3 : h3 ≡ Some bytes = appended h2 h3 [] bytes (text_is k2 h2 met is) app in
      let b : Said = record { kept = k; text = bytes } in
      let pair : IsPaired (Some a.kept) = subst IsPaired ke paired in
      (b, said_is k3 h3 k bytes kept3 held3, (comes_of a b input pair (append_assoc a.kept (a.text ∷ []) (input ∷ [])), input_read k0 l0 l1 a.kept input P ke heard m.1.filled reads, refl))

-- ---- faults

pub any_input : (left : Option (List ℕ)) → IfSome left (λ _. ⊤)
any_input None = tt
any_input (Some input) = tt

-- a count that rose later rose
pub later_rose : (f g h : ℕ) → f ≤ g → Rose g h → Rose f h
later_rose f g h more rose = omega (arith, more, rose)
