-- What number 3 tells of the bits that lack (document 02, A6), of every type of edition 1 and of all bits: the width of the field at the place, less those of its bits that are there; no other number tells any.
-- Assumes nothing.
use Prim.Native.Nat.{ℕ, zero, suc, ◌+◌, ◌-◌, ◌≤◌, ◌<◌}
use mathlib.Core.Path.{◌≡◌, refl, ap, subst, ◌∙◌}
use mathlib.Core.Bool.{Bool, true, false, cond}
use mathlib.Core.Logic.{◌⊎◌, inl, inr}
use mathlib.Core.List.{List, []}
use native.Mathlib.Decide.{dec_le}
use native.Mathlib.Omega.{arith}
use borrow.Author.Tests.{le-leb, lt-leb}
use lib.Dec.{leb}
use lib.IntN.{ℤ}
use lib.ListN.{length, take, length-take}
use Rattle.answers.specs.GivenBack as number
use Rattle.answers.specs.Refusals.{short_by}
use Rattle.answers.specs.declared.Refusal.{Refusal}
use Rattle.bits.specs.Numbers.{val, width}
use Rattle.bits.specs.Fetching.{code}
use Rattle.bits.proofs.Fetching.{NoneLacks}
use Rattle.types.specs.Shape.{Ty, Field}
use Rattle.meaning.specs.Values.{Value}
use Rattle.meaning.specs.Steps.{Got, ok, refused, Step, pure, prepend, and_then, ◌>>=◌}
use Rattle.meaning.specs.Walk.{walk}
use Rattle.meaning.specs.Reading.{free, Source, source, part, judged, unextended, read_whole, read_extension, reader, read}
use Rattle.meaning.specs.Extents.{Extent, extent, stopped, stopping, stopper, BelongsTo}
use Rattle.meaning.proofs.Every.{in_walk}
use Rattle.meaning.proofs.Plain.{Numbered, Plain}
use Rattle.meaning.proofs.Sides.{part_read, part_short}
use Rattle.meaning.proofs.Cut.{same_code}
use Rattle.answers.specs.Reasons.{reason_number}

-- the refusal is 3 with at least one bit that lacks; of all bits, of which the first n are there, the bit at its place and those behind it, as many as are there or lack, belong to one field, which begins at the place
pub record Lacks (t : Ty) (bs : List ℕ) (n from : ℕ) (why : Refusal) : Type 0 where
  pub is : why ≡ short_by why.lacking why.place
  pub some : 1 ≤ why.lacking
  pub bits : ℕ
  pub there : bits ≡ (n - why.place) + why.lacking
  pub belongs : (bit : ℕ) → why.place ≤ bit → bit < why.place + bits → BelongsTo t bs from bit (extent why.place bits)

-- ---- stopping at a field

module _ (bit first bits : ℕ) {X : Type 0} (g : Got ℤ X) where
  behind : first + bits ≤ bit → stopping bit (extent first bits) g ≡ g
  unfolding stopping
  behind h = rw (le-leb first bit (omega arith), le-leb (first + bits) bit h) refl

  inside : first ≤ bit → bit < first + bits → stopping bit (extent first bits) g ≡ refused (stopped (extent first bits))
  unfolding stopping
  inside h l = rw (le-leb first bit h, lt-leb (first + bits) bit l) refl

-- ---- what is judged: it goes on behind its bits, or is refused with another number, at its first bit

abbrev Judges : ℕ → ℕ → {X : Type 0} → Got ℤ X → Type 0
Judges first next (ok x out j) = j ≡ next
Judges first next (refused why) = (why.place ≡ first) × NoneLacks why

judges_test : {X : Type 0} (first next : ℕ) (b : Bool) (g : Got ℤ X) (why : Refusal) → Judges first next g → Judges first next {X = X} (refused why) → Judges first next (cond b g (refused why))
judges_test first next true g why h k = h
judges_test first next false g why h k = k

not_short : (f : Field) → Numbered f → reason_number f.outside ≡ number.short → ⊥
not_short f (inl e) s = omega arith
not_short f (inr h) s = omega arith

judged_judges : (f : Field) → Numbered f → (i m next : ℕ) → Judges i next (judged f i m next)
unfolding judged
judged_judges f u i m next = judges_test i next (leb m f.span) _ _ refl (refl, (not_short f u, refl))

unextended_judges : (i m next : ℕ) → Judges i next (unextended i m next)
unfolding unextended
unextended_judges i zero next = refl
unextended_judges i (suc m) next = (refl, ((λ e. omega arith), refl))

-- ---- a step on the first n bits, and the step on all of them that stops at the field of a bit

module _ (bs : List ℕ) (n : ℕ) (held : n ≤ length bs) (bit : ℕ) where
  -- the field of a refusal: those of its bits that are there, and those that lack
  abbrev field_of : Refusal → Extent
  field_of why = extent why.place ((n - why.place) + why.lacking)

  -- the other step stops at it, where the bit is one of its bits
  abbrev Stops : {X : Type 0} → Refusal → Got ℤ X → Type 0
  Stops why h =
      ((why ≡ short_by why.lacking why.place) × (1 ≤ why.lacking) × (why.place ≤ bit → bit < why.place + (field_of why).bits → h ≡ refused (stopped (field_of why))))
      ⊎ NoneLacks why

  abbrev Finds : {X : Type 0} → ℕ → Got ℤ X → Got ℤ X → Type 0
  Finds i (ok x out j) h = (i ≤ j) × (i ≤ n → j ≤ n) × (j ≤ bit → h ≡ ok x out j)
  Finds i (refused why) h = (i ≤ why.place) × (i ≤ n → why.place ≤ n) × Stops why h

  finds_then : {X Y : Type 0} (i : ℕ) (g h : Got ℤ X) (k l : X → ℕ → Got ℤ Y) → Finds i g h → ((x : X) (m : ℕ) → Finds m (k x m) (l x m)) → Finds i (and_then g k) (and_then h l)
  unfolding and_then prepend
  finds_then {X} {Y} i (ok x out j) h k l (a, b, c) G = go (k x j) refl (G x j)
    where
      go : (r : Got ℤ Y) → k x j ≡ r → Finds j r (l x j) → Finds i (prepend out r) (and_then h l)
      go (ok y more m) e (d, f, s) = (omega arith, (λ p. f (b p)), (λ p. rw (c (omega arith), s p) refl))
      go (refused why) e (d, f, inl (w, some, s)) = (omega arith, (λ p. f (b p)), inl (w, some, (λ p q. rw (c (omega arith), s p q) refl)))
      go (refused why) e (d, f, inr s) = (omega arith, (λ p. f (b p)), inr s)
  finds_then i (refused why) h k l (a, b, inl (w, some, s)) G = (a, b, inl (w, some, (λ p q. rw (s p q) refl)))
  finds_then i (refused why) h k l (a, b, inr s) G = (a, b, inr s)

  -- a field: k judges what its bits give
  finds_part : {X : Type 0} (w i : ℕ) (k : ℕ → ℕ → Got ℤ X) → ((m next : ℕ) → Judges i next (k m next))
      → Finds i (and_then (part i w (source (take n bs) free) i) k) (stopping bit (extent i w) (and_then (part i w (source bs free) i) k))
  unfolding and_then prepend
  finds_part {X} w i k J =
      elim (dec_le w (n - i)) [
        | yes p ↦
            let l : w ≤ length (take n bs) - i = omega (arith, length-take n bs) in
            let same : code (take n bs) i w ≡ code bs i w = ap val (same_code bs n i w l) in
            rw (part_read i w (take n bs) free i tt l ∙ ap (λ (c : ℕ). ok c [] (i + w)) same, part_read i w bs free i tt (omega arith)) (whole p (k (code bs i w) (i + w)) (J (code bs i w) (i + w)))
        | no p ↦
            let s : length (take n bs) - i < w = omega (arith, length-take n bs) in
            let left : length (take n bs) ≡ n = omega (arith, length-take n bs) in
            rw (part_short i w (take n bs) free i tt s ∙ ap (λ (m : ℕ). refused (short_by (w - (m - i)) i)) left) (lack (omega arith) (and_then (part i w (source bs free) i) k))
      ]
    where
      whole : w ≤ n - i → (g : Got ℤ X) → Judges i (i + w) g → Finds i (prepend [] g) (stopping bit (extent i w) (prepend [] g))
      whole p (ok x out j) e = (omega arith, (λ h. omega arith), (λ h. behind bit i w (ok x out j) (omega arith)))
      whole p (refused why) (at, none) = (omega arith, (λ h. omega arith), inr none)

      lack : n - i < w → (g : Got ℤ X) → Finds {X = X} i (refused (short_by (w - (n - i)) i)) (stopping bit (extent i w) g)
      lack p g =
          let is : (n - i) + (w - (n - i)) ≡ w = omega arith in
          (omega arith, (λ h. h), inl (refl, omega arith, (λ a b. rw is (inside bit i w g a (omega arith)))))

  -- of every type of edition 1
  abbrev FindsStep : (X : Type 0) → Step Source ℤ X → Step Source ℤ X → Type 0
  FindsStep X f g = (i : ℕ) → Finds i (f (source (take n bs) free) i) (g (source bs free) i)

  finds_walk : (t : Ty) → Plain t → FindsStep Value (walk t reader) (walk t (stopper bit))
  unfolding pure ◌>>=◌ read_whole read_extension
  finds_walk t = in_walk FindsStep {S' = stopper bit} (record {
    fit_bit = inl refl;
    fit_octet = inl refl;
    at_pure = λ x i. (omega arith, (λ h. h), (λ h. refl));
    at_bind = λ {X} {Y} {f} {g} {k} {l} F G i. finds_then i (f (source (take n bs) free) i) (g (source bs free) i) (λ x. k x (source (take n bs) free)) (λ x. l x (source bs free)) (F i) (λ x m. G x m);
    at_guard = λ u. absurd u;
    at_whole = λ f u i. finds_part (width f.span) i (judged f i) (judged_judges f u i);
    at_extension = λ i. finds_part 1 i (unextended i) (unextended_judges i);
    at_number = λ u. absurd u;
    at_open = λ u. absurd u;
  }) t

-- of the first n of these bits, read from a place on
pub lacks_told : (t : Ty) → Plain t → (bs : List ℕ) (n : ℕ) → n ≤ length bs → (from : ℕ) (why : Refusal) → read t (take n bs) from ≡ refused why → Lacks t bs n from why ⊎ NoneLacks why
lacks_told t h bs n held from why e = go (at why.place)
  where
    at : (bit : ℕ) → Finds bs n held bit from (refused why) (walk t (stopper bit) (source bs free) from)
    at bit = subst (λ (g : Got ℤ Value). Finds bs n held bit from g (walk t (stopper bit) (source bs free) from)) e (finds_walk bs n held bit t h from)

    field : Extent
    field = extent why.place ((n - why.place) + why.lacking)

    stops_at : (bit : ℕ) → reason_number why.reason ≡ number.short → why.place ≤ bit → bit < why.place + field.bits → BelongsTo t bs from bit field
    stops_at bit short p q = by (at bit)
      where
        by : Finds bs n held bit from (refused why) (walk t (stopper bit) (source bs free) from) → BelongsTo t bs from bit field
        by (a, b, inl (w, s, f)) = f p q
        by (a, b, inr (other, none)) = absurd (other short)

    go : Finds bs n held why.place from (refused why) (walk t (stopper why.place) (source bs free) from) → Lacks t bs n from why ⊎ NoneLacks why
    go (a, b, inl (w, some, f)) = inl (record {
      is = w;
      some = some;
      bits = field.bits;
      there = refl;
      belongs = λ bit p q. stops_at bit (ap (λ (r : Refusal). reason_number r.reason) w) p q;
    })
    go (a, b, inr s) = inr s

-- it begins at a bit that is there, or just behind the last of them, where reading began so
pub place_held : (t : Ty) → Plain t → (bs : List ℕ) (n : ℕ) → n ≤ length bs → (from : ℕ) → from ≤ n → (why : Refusal) → read t (take n bs) from ≡ refused why → why.place ≤ n
place_held t h bs n held from inner why e =
    (subst (λ (g : Got ℤ Value). Finds bs n held 0 from g (walk t (stopper 0) (source bs free) from)) e (finds_walk bs n held 0 t h from)).1 inner
