-- Bits that are cut off are short, or have the answer of all of them.
-- Assumes nothing.
use Prim.Native.Nat.{ℕ, ◌+◌, ◌-◌, ◌*◌, ◌≤◌, ◌<◌}
use mathlib.Core.Path.{◌≡◌, refl, sym, ap, ◌∙◌}
use mathlib.Core.Bool.{Bool, true, false, cond}
use mathlib.Core.Logic.{◌⊎◌, inl, inr, ⊎_elim}
use mathlib.Core.List.{List, []}
use native.Mathlib.Decide.{dec_le}
use native.Mathlib.Omega.{arith}
use lib.Dec.{leb, eqb}
use lib.ListN.{length, take, drop, length-take, length-drop}
use lib.Seq.{take-take}
use lib.IntN.{ℤ}
use Rattle.bits.specs.Numbers.{width}
use Rattle.answers.specs.Refusals.{short_by, not_shortest}
use Rattle.bits.specs.Fetching.{field_bits, code}
use Rattle.answers.specs.declared.Refusal.{Refusal}
use Rattle.types.specs.Shape.{Ty}
use Rattle.meaning.specs.Values.{Value}
use Rattle.meaning.specs.Steps.{Got, ok, refused, Step, pure, ◌>>=◌, and_then, prepend, judged_by, guarded}
use Rattle.meaning.specs.Coded.{Tree, found, wrong, ask, tree, an_extent}
use Rattle.meaning.specs.Walk.{walk}
use Rattle.meaning.specs.Reading.{Around, free, inside, Source, source, within, part, judged, read_whole, unextended, read_extension, follow, shown, read_number, octets_of, narrowed, clean, closed, read_opened, reader, read}
use Rattle.meaning.specs.Messages.{Short}
use Rattle.meaning.proofs.Steps.{slice_part, fail_le}
use Rattle.meaning.proofs.Every.{related}
use Rattle.meaning.proofs.Bound.{read_inside}

-- short, or the same answer
abbrev pub Final : {B X : Type 0} → Got B X → Got B X → Type 0
Final g h = Short g ⊎ (g ≡ h)

module _ {B : Type 0} where
  short_prepend : {X : Type 0} (o : List B) (r : Got B X) → Short r → Short (prepend o r)
  unfolding prepend
  short_prepend o (refused r) h = h
  short_prepend o (ok x out j) h = absurd h

  final_then : {X Y : Type 0} (g : Got B X) {g' : Got B X} (k k' : X → ℕ → Got B Y) → Final g g' → ((x : X) (m : ℕ) → Final (k x m) (k' x m)) → Final (and_then g k) (and_then g' k')
  unfolding and_then
  final_then {X} {Y} g {g'} k k' F G = ⊎_elim (λ s. inl (first g s)) (λ p. rw p (go g')) F
    where
      first : (r : Got B X) → Short r → Short (and_then r k)
      first (refused r) h = h
      first (ok x out j) h = absurd h

      go : (r : Got B X) → Final (and_then r k) (and_then r k')
      go (ok x o m) = ⊎_elim (λ s. inl (short_prepend o (k x m) s)) (λ p. inr (ap (prepend o) p)) (G x m)
      go (refused r) = inr refl

  final_judged : {X : Type 0} (good : X → Bool) (why : Refusal) (g : Got B X) {g' : Got B X} → Final g g' → Final (judged_by good why g) (judged_by good why g')
  unfolding judged_by
  final_judged {X} good why g F = ⊎_elim (λ s. inl (go g s)) (λ p. inr (ap (judged_by good why) p)) F
    where
      go : (r : Got B X) → Short r → Short (judged_by good why r)
      go (refused r) h = h
      go (ok x out j) h = absurd h

module _ (bs : List ℕ) (n : ℕ) where
  -- bits that are wholly there in the first n are the same bits in all of them
  pub same_code : (i w : ℕ) → w ≤ length (take n bs) - i → field_bits (take n bs) i w ≡ field_bits bs i w
  same_code i w h =
      let l = length-take n bs in
      elim (dec_le (i + w) n) [
        | yes k ↦ sym (slice_part i w (take n bs)) ∙ ap (drop i) (take-take (i + w) n bs k) ∙ slice_part i w bs
        | Dec.no k ↦ none (omega arith)
      ]
    where
      none : w ≡ 0 → field_bits (take n bs) i w ≡ field_bits bs i w
      none e = rw e refl

  -- an open value that ends before the bits do refuses either way; the open values around are said by lengths that were read, and not by how many bits there are
  final_within : {X : Type 0} (a : Around) (end : ℕ) (g : Got ℤ X) {g' : Got ℤ X} → Final g g' → Final (within a end g) (within a end g')
  unfolding within
  final_within free end g F = F
  final_within {X} (inside last place) end g {g'} F = go (leb end last)
    where
      go : (b : Bool) → Final (cond b g (refused (not_shortest place))) (cond b g' (refused (not_shortest place)))
      go true = F
      go false = inr refl

  final_part : (a : Around) (first w i : ℕ) → Final (part first w (source (take n bs) a) i) (part first w (source bs a) i)
  unfolding part
  final_part a first w i =
      final_within a (i + w) _ (elim (dec_le w (length (take n bs) - i)) [
        | yes h ↦ inr (there h)
        | Dec.no h ↦ inl (rw (fail_le w (length (field_bits (take n bs) i w)) (ok (code (take n bs) i w) [] (i + w)) (refused (short_by (w - length (field_bits (take n bs) i w)) first)) (lacks (omega arith))) refl)
      ])
    where
      lacks : length (take n bs) - i < w → length (field_bits (take n bs) i w) < w
      lacks h = simp (length-take, length-drop) (omega (arith, length-take n bs))

      there : w ≤ length (take n bs) - i
          → cond {A = Got ℤ ℕ} (leb w (length (field_bits (take n bs) i w))) (ok (code (take n bs) i w) [] (i + w)) (refused (short_by (w - length (field_bits (take n bs) i w)) first)) ≡ cond (leb w (length (field_bits bs i w))) (ok (code bs i w) [] (i + w)) (refused (short_by (w - length (field_bits bs i w)) first))
      there h = rw (same_code i w h) refl

  final_follow : (tr : Tree) (a : Around) (first i : ℕ) → Final (follow tr first (source (take n bs) a) i) (follow tr first (source bs a) i)
  unfolding follow
  final_follow (found m) a first i = inr refl
  final_follow wrong a first i = inr refl
  final_follow (ask w k) a first i =
      final_then (part first w (source (take n bs) a) i) (λ b. follow (k b) first (source (take n bs) a)) (λ b. follow (k b) first (source bs a)) (final_part a first w i) (λ b m. final_follow (k b) a first m)

  final_closed : (a : Around) (place octets from : ℕ) (g : Got ℤ Value) {g' : Got ℤ Value} → Final g g' → Final (closed place octets from (source (take n bs) a) g) (closed place octets from (source bs a) g')
  unfolding closed
  final_closed a place octets from g {g'} F = ⊎_elim (λ s. inl (cut_short g s)) (λ p. rw p (go g')) F
    where
      cut_short : (r : Got ℤ Value) → Short r → Short (closed place octets from (source (take n bs) a) r)
      cut_short (refused r) h = h
      cut_short (ok x out j) h = absurd h

      pad : (v : Value) (out : List ℤ) (at : ℕ) (b : Bool)
          → Final (cond b (and_then (part at (from + 8 * octets - at) (source (take n bs) a) at) (clean v out at)) (refused (not_shortest place))) (cond b (and_then (part at (from + 8 * octets - at) (source bs a) at) (clean v out at)) (refused (not_shortest place)))
      pad v out at true = final_then (part at (from + 8 * octets - at) (source (take n bs) a) at) (clean v out at) (clean v out at) (final_part a at (from + 8 * octets - at) at) (λ x m. inr refl)
      pad v out at false = inr refl

      go : (r : Got ℤ Value) → Final (closed place octets from (source (take n bs) a) r) (closed place octets from (source bs a) r)
      go (ok v out at) = pad v out at (eqb (octets_of (at - from)) octets)
      go (refused why) = inr refl

  -- the claim: whatever the open values around
  abbrev Cuts : (X : Type 0) → Step Source ℤ X → Step Source ℤ X → Type 0
  Cuts X f g = (a : Around) (i : ℕ) → Final (f (source (take n bs) a) i) (f (source bs a) i)

  final_open : (f : Step Source ℤ Value) → Cuts Value f f → Cuts Value (read_opened f) (read_opened f)
  unfolding read_opened
  final_open f F a i =
      final_then (follow (tree an_extent) i (source (take n bs) a) i)
      (λ m from. closed i m from (source (take n bs) a) (f (source (take n bs) (narrowed a (from + 8 * m) i)) from))
      (λ m from. closed i m from (source bs a) (f (source bs (narrowed a (from + 8 * m) i)) from))
      (final_follow (tree an_extent) a i i)
      (λ m from. final_closed a i m from (f (source (take n bs) (narrowed a (from + 8 * m) i)) from) (F (narrowed a (from + 8 * m) i) from))

  cuts : (t : Ty) → Cuts Value (walk t reader) (walk t reader)
  unfolding pure ◌>>=◌ guarded read_whole read_extension read_number
  cuts t = related Cuts {S' = reader} (record {
    fit_bit = tt;
    fit_octet = tt;
    at_pure = λ x a i. inr refl;
    at_bind = λ {X} {Y} {f} {g} {k} {l} F G a i. final_then (f (source (take n bs) a) i) (λ x. k x (source (take n bs) a)) (λ x. k x (source bs a)) (F a i) (λ x m. G x a m);
    at_guard = λ u good {f} {g} F a i. final_judged good (not_shortest i) (f (source (take n bs) a) i) (F a i);
    at_whole = λ f u a i. final_then (part i (width f.span) (source (take n bs) a) i) (judged f i) (judged f i) (final_part a i (width f.span) i) (λ x m. inr refl);
    at_extension = λ a i. final_then (part i 1 (source (take n bs) a) i) (unextended i) (unextended i) (final_part a i 1 i) (λ x m. inr refl);
    at_number = λ u c a i. final_then (follow (tree c) i (source (take n bs) a) i) shown shown (final_follow (tree c) a i i) (λ x m. inr refl);
    at_open = λ u {f} {g} F. final_open f F;
  }) t

-- the verdict on the first n bits is the verdict on all, unless they are too few
pub final : (t : Ty) (bs : List ℕ) (n i : ℕ) → Short (read t (take n bs) i) ⊎ (read t (take n bs) i ≡ read t bs i)
final t bs n i = cuts bs n t free i

-- a value that lacks its last bits is short
pub cut : (t : Ty) (bs : List ℕ) (i j : ℕ) (v : Value) (cells : List ℤ) → read t bs i ≡ ok v cells j → (n : ℕ) → i ≤ n → n < j → Short (read t (take n bs) i)
cut t bs i j v cells e n p q =
    ⊎_elim (λ s. s) (λ same. absurd (omega (arith, read_inside t (take n bs) i j v cells (same ∙ e), length-take n bs))) (final t bs n i)
