-- From the parts of a connection to the whole.
use Rattle.std.proofs.Common.{◌≡◌, ◌⊎◌, inl, inr, ℕ, List, [], ◌∷◌, ◌++◌, true, refl, sym, ap, ◌∙◌, subst, append_assoc}
use Rattle.std.proofs.lemmas.List.{append-nil, append_cancel_right}
use Rattle.std.specs.Prelude.{Option, None, Some, IfSome, Result, take}
use Rattle.std.specs.Io.KnownBytes.{Appends}
use Rattle.kn_io.specs.Callers.{IsHeard, IsPaired, Meets, every_second, followed, streams_of, texts_of, told_as}
use Rattle.kn_io.specs.Prefix.{AppendsPrefix}
use Rattle.kn_head.specs.declared.head.Head.{Head}
use Rattle.kn_head.specs.declared.head.HeadError.{HeadError}
use Rattle.kn_head.specs.Reading.{Reads}
use Rattle.kn_request.specs.declared.slot.Served.{Served}
use Rattle.kn_request.specs.declared.slot.Served.TheVariants as served
use Rattle.kn_request.specs.Outside.{Grows, Said, Talks, Tells, said, wrote}
use Rattle.kn_request.specs.One.{HasMetBy, IsText, ServesMetBy, Writes}

-- ---- what is told

some_said : (a b : Said) → Some a ≡ Some b → a ≡ b
some_said a b e = cc

kept_is : (k : Option (List (List ℕ))) (h : Option (List ℕ)) (a : Said) → said k h ≡ Some a → k ≡ Some a.kept
kept_is None None a e = absurd (cc)
kept_is None (Some h) a e = absurd (cc)
kept_is (Some k) None a e = absurd (cc)
kept_is (Some k) (Some h) a e = ap (λ (s : Said). Some s.kept) (some_said (record { kept = k; text = h }) a e)

text_is : (k : Option (List (List ℕ))) (h : Option (List ℕ)) (a : Said) → said k h ≡ Some a → h ≡ Some a.text
text_is None None a e = absurd (cc)
text_is None (Some h) a e = absurd (cc)
text_is (Some k) None a e = absurd (cc)
text_is (Some k) (Some h) a e = ap (λ (s : Said). Some s.text) (some_said (record { kept = k; text = h }) a e)

said_is : (k : Option (List (List ℕ))) (h : Option (List ℕ)) (x : List (List ℕ)) (y : List ℕ) → k ≡ Some x → h ≡ Some y → said k h ≡ Some record { kept = x; text = y }
said_is k h x y e f = ap (λ t. said t h) e ∙ ap (said (Some x)) f

some_bytes : (x y : List ℕ) → Some x ≡ Some y → x ≡ y
some_bytes x y e = cc

appended : (h h' : Option (List ℕ)) (x bytes : List ℕ) → h ≡ Some x → Appends h h' bytes → h' ≡ Some (x ++ bytes)
appended None h' x bytes e a = absurd (cc)
appended (Some y) None x bytes e a = absurd a
appended (Some y) (Some z) x bytes e a = ap Some a ∙ ap (λ o. Some (o ++ bytes)) (some_bytes y x e)

-- ---- writing

grows_of : (k k' : Option (List (List ℕ))) (h h' : Option (List ℕ)) (bytes : List ℕ) → k' ≡ k → Appends h h' bytes → Grows (said k h) (said k' h') bytes
grows_of k k' h h' bytes same app a e =
    (wrote a bytes, said_is k' h' a.kept (a.text ++ bytes) (same ∙ kept_is k h a e) (appended h h' a.text bytes (text_is k h a e) app), refl)

pub written : (k k' : Option (List (List ℕ))) (h h' : Option (List ℕ)) (bytes : List ℕ) (s : Served) → k' ≡ k → Appends h h' bytes → Writes (said k h) (said k' h') s s bytes
written k k' h h' bytes s same app = inl (refl, grows_of k k' h h' bytes same app)

pub cut_short : (k k' : Option (List (List ℕ))) (h h' : Option (List ℕ)) (bytes : List ℕ) (s : Served) → k' ≡ k → AppendsPrefix h h' bytes → Writes (said k h) (said k' h') served.CallerFault s bytes
cut_short k k' h h' bytes s same app = inr (
  refl,
  λ a e.
      let g = grows_of k k' h h' (take app.0 bytes) same app.2 a e in (g.0, g.1, (app.0, g.2)),
)

-- nothing is written
pub silent : (a : Option Said) (s : Served) → Writes a a s s []
silent a s = inl (refl, λ x e. (x, e, ap (λ t. record x { text = t }) (sym (append-nil x.text))))

-- ---- reading, which leaves what was written

first_of_two : {A : Type 0} (x y : A) (xs ys : List A) → x ∷ xs ≡ y ∷ ys → x ≡ y
first_of_two x y xs ys e = cc

rest_of_two : {A : Type 0} (x y : A) (xs ys : List A) → x ∷ xs ≡ y ∷ ys → xs ≡ ys
rest_of_two x y xs ys e = cc

last_same : {A : Type 0} (xs ys : List A) (x y : A) → xs ++ x ∷ [] ≡ ys ++ y ∷ [] → (xs ≡ ys) × (x ≡ y)
last_same [] [] x y e = (refl, first_of_two x y [] [] e)
last_same [] (z ∷ []) x y e = absurd (cc)
last_same [] (z ∷ w ∷ zs) x y e = absurd (cc)
last_same (z ∷ []) [] x y e = absurd (cc)
last_same (z ∷ w ∷ zs) [] x y e = absurd (cc)
last_same (v ∷ xs) (w ∷ ys) x y e =
    let r = last_same xs ys x y (rest_of_two v w (xs ++ x ∷ []) (ys ++ y ∷ []) e) in
    let f = first_of_two v w (xs ++ x ∷ []) (ys ++ y ∷ []) e in
    (ap (λ a. a ∷ xs) f ∙ ap (λ l. w ∷ l) r.0, r.1)

some_texts : (x y : List (List ℕ)) → Some x ≡ Some y → x ≡ y
some_texts x y e = cc

pub said_stays : (k k' : Option (List (List ℕ))) (h h' : Option (List ℕ)) → followed k' h' ≡ followed k h → said k' h' ≡ said k h
said_stays None None None None e = refl
said_stays None None None (Some h') e = refl
said_stays None None (Some h) None e = refl
said_stays None None (Some h) (Some h') e = refl
said_stays None (Some k') None None e = refl
said_stays None (Some k') None (Some h') e = absurd (cc)
said_stays None (Some k') (Some h) None e = refl
said_stays None (Some k') (Some h) (Some h') e = absurd (cc)
said_stays (Some k) None None None e = refl
said_stays (Some k) None None (Some h') e = refl
said_stays (Some k) None (Some h) None e = absurd (cc)
said_stays (Some k) None (Some h) (Some h') e = absurd (cc)
said_stays (Some k) (Some k') None None e = refl
said_stays (Some k) (Some k') None (Some h') e = absurd (cc)
said_stays (Some k) (Some k') (Some h) None e = absurd (cc)
said_stays (Some k) (Some k') (Some h) (Some h') e =
    let l = last_same k' k h' h (some_texts (k' ++ h' ∷ []) (k ++ h ∷ []) e) in
    ap (λ x. Some record { kept = x; text = h' }) l.0 ∙ ap (λ y. Some record { kept = k; text = y }) l.1

-- ---- meeting

-- the texts were told, so the input is
input_read : (kept : Option (List (List ℕ))) (left left' : Option (List ℕ)) (texts : List (List ℕ)) (input : List ℕ) (h : Result Head HeadError) → kept ≡ Some texts → IsHeard kept left → left' ≡ told_as input left
    → IfSome left' (λ bytes. Reads bytes h) → Reads input h
input_read None left left' texts input h told heard e reads = absurd (cc)
input_read (Some t) None left' texts input h told heard e reads = absurd heard
input_read (Some t) (Some l) left' texts input h told heard e reads = subst (λ o. IfSome o (λ bytes. Reads bytes h)) e reads

answered_of : (a b : Option Said) (result meant : Served) (text : List ℕ) → Writes a b result meant text → (result ≡ meant) ⊎ (result ≡ served.CallerFault)
answered_of a b result meant text w = elim w [ inl g ↦ inl g.0 | inr g ↦ inr g.0 ]

module _ (law_texts : (kept : List (List ℕ)) (held input : List ℕ) → IsPaired (Some kept) → texts_of (kept ++ held ∷ input ∷ []) [] ≡ texts_of kept held ++ [] ∷ [])
    (law_streams : (kept : List (List ℕ)) (held input : List ℕ) → IsPaired (Some kept) → streams_of (kept ++ held ∷ input ∷ []) ≡ streams_of kept ++ input ∷ []) where
  -- one text and one stream more
  talk : (h : Result Head HeadError) (a b : Said) (input : List ℕ) → IsPaired (Some a.kept) → b.kept ≡ a.kept ++ a.text ∷ input ∷ [] → Reads input h → Talks h a b
  talk h a b input paired kept reads = record {
    input = input;
    kept = kept;
    texts =
        let e = append_cancel_right (every_second true (a.kept ++ a.text ∷ input ∷ [])) (texts_of a.kept a.text) ([] ∷ []) (law_texts a.kept a.text input paired) in
        ap (λ l. l ++ b.text ∷ []) (ap (every_second true) kept ∙ e);
    streams = ap streams_of kept ∙ law_streams a.kept a.text input paired;
    head = reads;
  }

  talks_of : (k0 k1 : Option (List (List ℕ))) (h0 h1 l0 l1 : Option (List ℕ)) (s3 : Option Said) (h : Result Head HeadError) (result meant : Served) (text : List ℕ) → IsPaired k0 → IsHeard k0 l0 → Meets k0 k1 h0 h1 l0 l1
      → IfSome l1 (λ bytes. Reads bytes h) → Writes (said k1 h1) s3 result meant text → Tells (said k0 h0) s3 (λ a b. Talks h a b × IsText result meant text b.text)
  talks_of k0 k1 h0 h1 l0 l1 s3 h result meant text paired heard m reads w a e =
      let input = m.0 in
      let ke = kept_is k0 h0 a e in
      let te = text_is k0 h0 a e in
      let k = (a.kept ++ a.text ∷ []) ++ input ∷ [] in
      let kept1 : k1 ≡ Some k = m.1.grown ∙ (ap (λ t. followed (followed t h0) (Some input)) ke ∙ ap (λ t. followed (followed (Some a.kept) t) (Some input)) te) in
      let held1 : h1 ≡ Some [] = m.1.emptied ∙ ap (told_as []) te in
      let met : Said = record { kept = k; text = [] } in
      let is : said k1 h1 ≡ Some met = said_is k1 h1 k [] kept1 held1 in
      let pair : IsPaired (Some a.kept) = subst IsPaired ke paired in
      let has = input_read k0 l0 l1 a.kept input h ke heard m.1.filled reads in
      elim w [
        | inl g ↦
            let z = g.1 met is in
            let kz : z.0.kept ≡ a.kept ++ a.text ∷ input ∷ [] = ap (λ (s : Said). s.kept) z.2 ∙ append_assoc a.kept (a.text ∷ []) (input ∷ []) in
            (z.0, z.1, (talk h a z.0 input pair kz has, inl (g.0, ap (λ (s : Said). s.text) z.2)))
        | inr g ↦
            let z = g.1 met is in
            let kz : z.0.kept ≡ a.kept ++ a.text ∷ input ∷ [] = ap (λ (s : Said). s.kept) z.2.1 ∙ append_assoc a.kept (a.text ∷ []) (input ∷ []) in
            (z.0, z.1, (talk h a z.0 input pair kz has, inr (g.0, (z.2.0, ap (λ (s : Said). s.text) z.2.1))))
      ]

  pub met_of : (Way : Result Head HeadError → Served → List ℕ → Type 0) (k0 k1 : Option (List (List ℕ))) (h0 h1 l0 l1 : Option (List ℕ)) (s3 : Option Said) (result : Served)
      → IsPaired k0 → IsHeard k0 l0 → Meets k0 k1 h0 h1 l0 l1 → ServesMetBy Way l1 (said k1 h1) s3 result → HasMetBy Way (said k0 h0) s3 result
  met_of Way k0 k1 h0 h1 l0 l1 s3 result paired heard m x = record {
    found = x.found;
    meant = x.meant;
    text = x.text;
    way = x.way;
    answers = answered_of (said k1 h1) s3 result x.meant x.text x.writes;
    talks = talks_of k0 k1 h0 h1 l0 l1 s3 x.found result x.meant x.text paired heard m x.reads x.writes;
  }
