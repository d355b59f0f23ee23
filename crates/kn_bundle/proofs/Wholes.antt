-- How a bundle ends: at a line that is refused, at the end of the input, or by a fault.
use Rattle.std.proofs.Common.{◌≡◌, ◌+◌, ◌-◌, ℕ, zero, suc, Bool, true, false, List, [], ◌∷◌, ◌++◌, length, length-append, append_assoc, append-nil, nat_eq, nat_lt, refl, sym, ap, ◌∙◌, subst}
use Rattle.std.specs.Prelude.{Option, None, Some, Err, ⊤}
use Rattle.std.specs.Io.KnownBytes.{Appends, prepend_known}
use Rattle.std.proofs.KnownBytes.{Appends-nil, Appends-trans}
use Rattle.std.proofs.lemmas.Bool.{eqb-false, eqb-true}
use Rattle.kn_io.specs.Prefix.{AppendsPrefix}
use Rattle.kn_journal.specs.declared.error.JournalError.{JournalError}
use Rattle.kn_journal.specs.declared.error.JournalError.TheVariants as error
use Rattle.kn_journal.specs.declared.journal.Journal.{Journal}
use Rattle.kn_journal.specs.declared.status.Status.{Status}
use Rattle.kn_journal.specs.declared.status.Status.TheVariants as status
use Rattle.kn_journal.specs.Bundle.{first_of_part}
use Rattle.kn_journal.specs.Causes.{Cause, IsGoodSoFar, error_of, no_end}
use Rattle.kn_journal.specs.Lines.{lines}
use Rattle.kn_journal.specs.Reading.{EndsThere, IsOver, TakesPart, most_taken}
use Rattle.kn_journal.specs.Telling.{Gives, Refuses}
use Rattle.kn_journal.specs.Texts.{TextLaws}
use Rattle.kn_follow.specs.Account.{Account}
use Rattle.kn_follow.specs.Endings.{IsReplayed, status_of}
use Rattle.kn_follow.specs.Laws.{EndingLaws}
use Rattle.kn_report.specs.AddingLaws.{AddingLaws}
use Rattle.kn_bundle.specs.Bundle.{Bundle, bundle, bundle_of_lines, bundle_by, bundle_on, journal_in, no_journal, stopped, with_journals}
use Rattle.kn_bundle.specs.Following.{BreaksIn, FollowsBundle, LacksMemory, end_by, end_in, text_at, text_in, text_of_opened}
use Rattle.kn_bundle.specs.Stages.{BreaksAt, FollowsStage, chosen, text_of_stage}
use Rattle.kn_bundle.proofs.Alongs.{IsAlong, along_over, along_taken, split-behind, whole-behind}
use Rattle.kn_bundle.proofs.Bundles.{IsFirst, ReadsJournals, all_end, all_refused, all_stage, bundle_is, first-line, first-none, journals_begin, journals_more, own_end, own_stage}
use Rattle.kn_bundle.proofs.Texts.{IsFor, text_more, text_open, text_stage}

-- ---- so far

-- so many journals were read, and what is written of journal k among them was written
pub record IsSoFar (a : Account) (k count : ℕ) (all : List (List ℕ)) (n : ℕ) (left : List (List ℕ)) (old new : Option (List ℕ)) : Type 0 where
  pub journals : List Journal
  pub many : length journals ≡ count
  pub reads : ReadsJournals all journals n left
  pub held : Appends old new (text_at a k journals None)

abbrev pub SoFar : Account → ℕ → ℕ → Option (List ℕ) → ℕ → Option (List ℕ) → Option (List ℕ) → Option (List ℕ) → Type 0
SoFar a k count None n rest old new = ⊤
SoFar a k count (Some xs) n None old new = ⊥
SoFar a k count (Some xs) n (Some ys) old new = IsSoFar a k count (lines xs) n (lines ys) old new

pub so_far_begin : (a : Account) (k : ℕ) (known old : Option (List ℕ)) → SoFar a k 0 known 0 known old old
so_far_begin a k None old = tt
so_far_begin a k (Some xs) old =
    record { journals = []; many = refl; reads = journals_begin (lines xs); held = subst (Appends old old) (sym (none k)) (Appends-nil old) }
  where
    none : (k : ℕ) → text_at a k [] None ≡ []
    none zero = refl
    none (suc k) = refl

for_it : (k count : ℕ) → (js : List Journal) → length js ≡ count → IsFor (nat_eq count k) k (length js)
for_it k count js many = record {
  same = λ is. sym (many ∙ eqb-true count k is);
  other = λ is e. eqb-false count k is (sym (e ∙ many));
}

pub so_far_more : (a : Account) (k count : ℕ) (cut : Bool) (known rest mid left : Option (List ℕ)) (n version m p : ℕ) (old held new : Option (List ℕ)) → SoFar a k count known n rest old held → IsAlong false cut known rest
    → (IsOver cut rest → Gives (first_of_part n) (Some version) m rest mid)
    → FollowsStage (chosen (nat_eq count k) a) version m p mid left held new status.Ok → SoFar a k (count + 1) known p left old new
so_far_more a k count cut None rest mid left n version m p old held new h along g f = tt
so_far_more a k count cut (Some xs) None mid left n version m p old held new h along g f = absurd h
so_far_more a k count cut (Some xs) (Some ys) None left n version m p old held new h along g f = absurd (g (along_over false cut xs ys tt along))
so_far_more a k count cut (Some xs) (Some ys) (Some zs) None n version m p old held new h along g f = absurd f
so_far_more a k count cut (Some xs) (Some ys) (Some zs) (Some us) n version m p old held new h along g (j, whole, wrote) =
    let js = h.journals in
    let b = chosen (nat_eq count k) a in
    let first = first-line n (lines ys) version m (lines zs) (g (along_over false cut xs ys tt along)) in
    record {
      journals = js ++ j ∷ [];
      many = length-append js (j ∷ []) ∙ ap (λ (i : ℕ). i + 1) h.many;
      reads = journals_more (lines xs) js n (lines ys) version m (lines zs) j p (lines us) h.reads first whole;
      held =
          subst (Appends old new) (text_more a (nat_eq count k) k js j (for_it k count js h.many))
          (Appends-trans old held new (text_at a k js None) (b.body j ++ b.close j) h.held wrote);
    }

-- ---- it ends here

ends_plainly : (a : Account) (k : ℕ) (xs : List ℕ) (left : Option (List ℕ)) (given : ℕ) (old new : Option (List ℕ)) (js : List Journal) (opened : Option Journal) (cause : Cause)
    → bundle_of_lines (lines xs) ≡ with_journals js (no_journal opened (Some cause)) → Appends old new (text_at a k (js ++ []) opened)
    → (status_of (error_of cause) ≡ end_in k (bundle xs)) × Appends old new (text_in a k (bundle xs))
ends_plainly a k xs left given old new js opened cause is held =
    let all = bundle_is xs ∙ is in
    (ap (end_in k) (sym all), subst (λ (b : Bundle). Appends old new (text_in a k b)) (sym all) held)

-- all lines are good
pub ends_good : (a : Account) (k count : ℕ) (cut : Bool) (known rest left last : Option (List ℕ)) (n m given : ℕ) (old new : Option (List ℕ)) → SoFar a k count known n rest old new → IsAlong false cut known rest
    → (IsOver cut rest → Gives (first_of_part n) None m rest left)
    → FollowsBundle a k known last given old new (end_by None (nat_lt k count))
ends_good a k count cut None rest left last n m given old new h along g = tt
ends_good a k count cut (Some xs) None left last n m given old new h along g = absurd h
ends_good a k count cut (Some xs) (Some ys) None last n m given old new h along g = absurd (g (along_over false cut xs ys tt along))
ends_good a k count cut (Some xs) (Some ys) (Some zs) last n m given old new h along g =
    let js = h.journals in
    let all : bundle xs ≡ with_journals js (no_journal None None) = bundle_is xs ∙ all_end (lines xs) js n (lines ys) m (lines zs) h.reads (g (along_over false cut xs ys tt along)) in
    let end : end_by None (nat_lt k count) ≡ end_in k (bundle xs) =
    ap (λ (i : ℕ). end_by None (nat_lt k i)) (sym (ap length (append-nil js) ∙ h.many)) ∙ ap (end_in k) (sym all) in
    let text : Appends old new (text_in a k (bundle xs)) =
    subst (λ (b : Bundle). Appends old new (text_in a k b)) (sym all) (subst (λ (x : List Journal). Appends old new (text_at a k x None)) (sym (append-nil js)) h.held) in
    by_test (nat_lt k count) end text
  where
    by_test : (t : Bool) → end_by None t ≡ end_in k (bundle xs) → Appends old new (text_in a k (bundle xs)) → FollowsBundle a k (Some xs) last given old new (end_by None t)
    by_test true e w = (e, w)
    by_test false e w = (e, w)

pub ends_there : (endings : EndingLaws) (a : Account) (k count : ℕ) (cut : Bool) (known rest last : Option (List ℕ)) (ahead : List ℕ) (n m : ℕ) (old new : Option (List ℕ)) → SoFar a k count known n rest old new → IsAlong false cut known rest
    → (IsOver cut rest → Gives (first_of_part n) None m rest (prepend_known ahead last))
    → EndsThere known last
ends_there endings a k count cut None rest last ahead n m old new h along g = tt
ends_there endings a k count cut (Some xs) None last ahead n m old new h along g = absurd h
ends_there endings a k count cut (Some xs) (Some ys) None ahead n m old new h along g = absurd (g (along_over false cut xs ys tt along))
ends_there endings a k count cut (Some xs) (Some ys) (Some zs) ahead n m old new h along g =
    ap (λ (z : List ℕ). Some z) (last_part ahead zs (endings.none_left (ahead ++ zs) (first-none n (lines ys) m (lines (ahead ++ zs)) (g (along_over false cut xs ys tt along)))))
  where
    last_part : (x y : List ℕ) → x ++ y ≡ [] → y ≡ []
    last_part [] y e = e
    last_part (b ∷ x) y e = cc

-- the first line of a journal is refused, or the source failed before it
pub ends_first : (laws : TextLaws) (a : Account) (k count : ℕ) (cut : Bool) (known rest last : Option (List ℕ)) (ahead : List ℕ) (n given : ℕ) (old new : Option (List ℕ)) (e : JournalError)
    → SoFar a k count known n rest old new → IsAlong false cut known rest → (IsOver cut rest → Refuses (first_of_part n) e rest) → (e ≡ error.ReadFault → TakesPart rest (prepend_known ahead last)) → (e ≡ error.Memory → ⊥)
    → (e ≡ error.ReadFault → length ahead ≡ given - most_taken) → FollowsBundle a k known last given old new (status_of e)
ends_first laws a k count cut None rest last ahead n given old new e h along refuses amid never beyond = tt
ends_first laws a k count cut (Some xs) None last ahead n given old new e h along refuses amid never beyond = absurd h
ends_first laws a k count cut (Some xs) (Some ys) last ahead n given old new e h along refuses amid never beyond = by_error e (refuses (along_over false cut xs ys tt along)) amid never beyond
  where
    js : List Journal
    js = h.journals

    held : Appends old new (text_at a k (js ++ []) None)
    held = subst (λ (x : List Journal). Appends old new (text_at a k x None)) (sym (append-nil js)) h.held

    refused : (cause : Cause) → first_of_part n (lines ys) ≡ Err cause → (status_of (error_of cause) ≡ end_in k (bundle xs)) × Appends old new (text_in a k (bundle xs))
    refused cause g = ends_plainly a k xs last given old new js None cause (all_refused (lines xs) js n (lines ys) cause h.reads g) held

    breaks : TakesPart (Some ys) (prepend_known ahead last) → BreaksIn a k xs (prepend_known ahead last) (text_at a k js None)
    breaks part =
        let t = along_taken laws false cut xs ys along in
        let is : bundle t.text ≡ with_journals js (no_journal None None) =
        bundle_is t.text ∙ ap bundle_of_lines (laws.own xs t.text ys h.reads.own t.split t.whole h.reads.split) ∙ own_end (lines xs) js n (lines ys) h.reads in
        record {
          bytes = t.text;
          mid = ys;
          split = t.split;
          whole = t.whole;
          good = subst (λ (b : Bundle). IsGoodSoFar b.refused) (sym is) tt;
          text = ap (λ (x : List Journal). text_at a k x None) (sym (append-nil js)) ∙ ap (text_in a k) (sym is);
          rest = part;
        }

    by_error : (x : JournalError) → Refuses (first_of_part n) x (Some ys) → (x ≡ error.ReadFault → TakesPart (Some ys) (prepend_known ahead last)) → (x ≡ error.Memory → ⊥) → (x ≡ error.ReadFault → length ahead ≡ given - most_taken)
        → FollowsBundle a k (Some xs) last given old new (status_of x)
    by_error error.ReadFault r at never beyond = (text_at a k js None, h.held, (ahead, beyond refl, breaks (at refl)))
    by_error error.Memory r at never beyond = absurd (never refl)
    by_error (error.BadFirstLine due) (cause, is, g) at never beyond = subst (λ (x : JournalError). (status_of x ≡ end_in k (bundle xs)) × Appends old new (text_in a k (bundle xs))) is (refused cause g)
    by_error (error.BadSetup line why) (cause, is, g) at never beyond = subst (λ (x : JournalError). (status_of x ≡ end_in k (bundle xs)) × Appends old new (text_in a k (bundle xs))) is (refused cause g)
    by_error (error.LineTooLong line) (cause, is, g) at never beyond = subst (λ (x : JournalError). (status_of x ≡ end_in k (bundle xs)) × Appends old new (text_in a k (bundle xs))) is (refused cause g)
    by_error (error.BadLine line why) (cause, is, g) at never beyond = subst (λ (x : JournalError). (status_of x ≡ end_in k (bundle xs)) × Appends old new (text_in a k (bundle xs))) is (refused cause g)
    by_error (error.TimeBack line before own) (cause, is, g) at never beyond = subst (λ (x : JournalError). (status_of x ≡ end_in k (bundle xs)) × Appends old new (text_in a k (bundle xs))) is (refused cause g)
    by_error (error.TimeTooLarge line) (cause, is, g) at never beyond = subst (λ (x : JournalError). (status_of x ≡ end_in k (bundle xs)) × Appends old new (text_in a k (bundle xs))) is (refused cause g)
    by_error error.NoEnd (cause, is, g) at never beyond = subst (λ (x : JournalError). (status_of x ≡ end_in k (bundle xs)) × Appends old new (text_in a k (bundle xs))) is (refused cause g)
    by_error (error.AfterEnd line) (cause, is, g) at never beyond = subst (λ (x : JournalError). (status_of x ≡ end_in k (bundle xs)) × Appends old new (text_in a k (bundle xs))) is (refused cause g)
    by_error (error.TooMany line) (cause, is, g) at never beyond = subst (λ (x : JournalError). (status_of x ≡ end_in k (bundle xs)) × Appends old new (text_in a k (bundle xs))) is (refused cause g)

-- memory is lacking before the first byte
pub ends_unbegun : (a : Account) (k : ℕ) (known last : Option (List ℕ)) (given : ℕ) (out : Option (List ℕ)) → FollowsBundle a k known last given out out status.Memory
ends_unbegun a k None last given out = tt
ends_unbegun a k (Some xs) last given out =
    let begin = journals_begin (lines xs) in
    let is = own_end (lines xs) [] 0 (lines xs) begin in (
      [],
      Appends-nil out,
      record {
        own = begin.own;
        left = lines xs;
        split = begin.split;
        unopened = ap (λ (b : Bundle). b.opened) is;
        unrefused = ap (λ (b : Bundle). b.refused) is;
        text = none k ∙ ap (text_in a k) (sym is);
      },
    )
  where
    none : (k : ℕ) → ◌≡◌ {A = List ℕ} [] (text_at a k [] None)
    none zero = refl
    none (suc k) = refl

-- a journal was not read to its end
pub ends_within : (laws : TextLaws) (adding : AddingLaws) (a : Account) (k count : ℕ) (before cut : Bool) (known rest mid last : Option (List ℕ)) (ahead : List ℕ) (n version m p given : ℕ) (old held new : Option (List ℕ)) (result : Status)
    → SoFar a k count known n rest old held → IsAlong false before known rest → (IsOver before rest → Gives (first_of_part n) (Some version) m rest mid) → IsAlong false cut known mid
    → FollowsStage (chosen (nat_eq count k) a) version m p mid (prepend_known ahead last) held new result → IsReplayed result → (result ≡ status.Ok → ⊥) → (nat_eq count k ≡ false → result ≡ status.WriteFault → ⊥)
    → (result ≡ status.ReadFault → length ahead ≡ given - most_taken) → FollowsBundle a k known last given old new result
ends_within laws adding a k count before cut None rest mid last ahead n version m p given old held new result h was g along f replayed bad unwritten beyond = tt
ends_within laws adding a k count before cut (Some xs) None mid last ahead n version m p given old held new result h was g along f replayed bad unwritten beyond = absurd h
ends_within laws adding a k count before cut (Some xs) (Some ys) None last ahead n version m p given old held new result h was g along f replayed bad unwritten beyond = absurd (g (along_over false before xs ys tt was))
ends_within laws adding a k count before cut (Some xs) (Some ys) (Some zs) last ahead n version m p given old held new result h was g along f replayed bad unwritten beyond =
    by_result result replayed bad unwritten beyond f
  where
    js : List Journal
    js = h.journals

    is_for : IsFor (nat_eq count k) k (length js)
    is_for = for_it k count js h.many

    begins : IsFirst n (lines ys) version m (lines zs)
    begins = first-line n (lines ys) version m (lines zs) (g (along_over false before xs ys tt was))

    text : (opened : Option Journal) → Appends held new (text_of_opened (chosen (nat_eq count k) a) opened) → Appends old new (text_at a k (js ++ []) opened)
    text opened wrote =
        subst (Appends old new) (text_open a (nat_eq count k) k js opened is_for)
        (Appends-trans old held new (text_at a k js None) (text_of_opened (chosen (nat_eq count k) a) opened) h.held wrote)

    next : ℕ → List (List ℕ) → Bundle
    next = λ n left. bundle_by (length (lines xs) - length js) n left

    all : bundle_of_lines (lines xs) ≡ with_journals js (bundle_on (journal_in version m (lines zs)) next)
    all = all_stage (lines xs) js n (lines ys) version m (lines zs) h.reads begins

    stops : (r : Status) → (opened : Option Journal) × (cause : Cause) × (journal_in version m (lines zs) ≡ stopped opened cause) × (r ≡ status_of (error_of cause)) × Appends held new (text_of_opened (chosen (nat_eq count k) a) opened)
        → (r ≡ end_in k (bundle xs)) × Appends old new (text_in a k (bundle xs))
    stops r (opened, cause, reads, is, wrote) =
        let plain = ends_plainly a k xs last given old new js opened cause (all ∙ ap (λ s. with_journals js (bundle_on s next)) reads) (text opened wrote) in
        (is ∙ plain.0, plain.1)

    breaks : (opened : Option Journal) → BreaksAt version m zs (prepend_known ahead last) opened → BreaksIn a k xs (prepend_known ahead last) (text_at a k (js ++ []) opened)
    breaks opened b =
        let t = along_taken laws false cut xs zs along in
        let own = h.reads.own ++ begins.line ∷ [] in
        let split : lines xs ≡ own ++ lines zs =
        h.reads.split ∙ ap (λ (x : List (List ℕ)). h.reads.own ++ x) begins.split ∙ sym (append_assoc h.reads.own (begins.line ∷ []) (lines zs)) in
        let taken : lines (t.text ++ b.bytes) ≡ h.reads.own ++ begins.line ∷ lines b.bytes =
        laws.behind t.text zs b.bytes b.mid t.whole b.split ∙ ap (λ (x : List (List ℕ)). x ++ lines b.bytes) (laws.own xs t.text zs own t.split t.whole split)
        ∙ append_assoc h.reads.own (begins.line ∷ []) (lines b.bytes) in
        let some = own_stage (lines xs) js n (lines ys) version m (lines zs) (lines b.bytes) (stopped opened no_end) h.reads begins b.reads in
        let is : bundle (t.text ++ b.bytes) ≡ with_journals js (no_journal opened (Some no_end)) = bundle_is (t.text ++ b.bytes) ∙ ap bundle_of_lines taken ∙ some.1 in
        record {
          bytes = t.text ++ b.bytes;
          mid = b.mid;
          split = split-behind xs t.text zs b.bytes b.mid t.split b.split;
          whole = whole-behind laws t.text zs b.bytes b.mid t.whole b.split b.whole;
          good = subst (λ (x : Bundle). IsGoodSoFar x.refused) (sym is) refl;
          text = ap (text_in a k) (sym is);
          rest = b.rest;
        }

    lacks : LacksMemory a k (lines xs) (text_at a k js None)
    lacks =
        let is = own_end (lines xs) js n (lines ys) h.reads in
        record {
          own = h.reads.own;
          left = lines ys;
          split = h.reads.split;
          unopened = ap (λ (b : Bundle). b.opened) is;
          unrefused = ap (λ (b : Bundle). b.refused) is;
          text = ap (λ (x : List Journal). text_at a k x None) (sym (append-nil js)) ∙ ap (text_in a k) (sym is);
        }

    cut_off : (b : Bool) → IsFor b k (length js) → (b ≡ false → ⊥) → AppendsPrefix held new (text_of_stage (chosen b a) (journal_in version m (lines zs))) → AppendsPrefix old new (text_in a k (bundle xs))
    cut_off true it none some =
        let s = journal_in version m (lines zs) in
        let x = text_at a k js None in
        let y = text_of_stage a s in
        subst (AppendsPrefix old new) (text_stage a k js s next (it.same refl) ∙ ap (text_in a k) (sym (bundle_is xs ∙ all))) (adding.after old held new x y h.held some)
    cut_off false it none some = absurd (none refl)

    by_result : (r : Status) → IsReplayed r → (r ≡ status.Ok → ⊥) → (nat_eq count k ≡ false → r ≡ status.WriteFault → ⊥) → (r ≡ status.ReadFault → length ahead ≡ given - most_taken)
        → FollowsStage (chosen (nat_eq count k) a) version m p (Some zs) (prepend_known ahead last) held new r → FollowsBundle a k (Some xs) last given old new r
    by_result status.Ok rep not-ok unw bey s = absurd (not-ok refl)
    by_result status.Usage rep not-ok unw bey s = absurd rep
    by_result (status.BadInput e) rep not-ok unw bey s = stops (status.BadInput e) s
    by_result (status.BadSetup e) rep not-ok unw bey s = stops (status.BadSetup e) s
    by_result status.ReadFault rep not-ok unw bey (opened, b, wrote) = (text_at a k (js ++ []) opened, text opened wrote, (ahead, bey refl, breaks opened b))
    by_result status.WriteFault rep not-ok unw bey s = cut_off (nat_eq count k) is_for (λ is. unw is refl) s
    by_result status.Memory rep not-ok unw bey s =
        (text_at a k js None, subst (Appends old new) (append-nil (text_at a k js None)) (Appends-trans old held new (text_at a k js None) [] h.held s), lacks)
    by_result (status.SlotFault slot) rep not-ok unw bey s = absurd rep
    by_result status.ListenFault rep not-ok unw bey s = absurd rep
