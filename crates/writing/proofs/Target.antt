-- What was put out leaves the target clean behind it, so that a writer stands there.
-- Assumes nothing.
use Prim.Native.Nat.{ℕ, zero, suc, ◌+◌, ◌-◌, ◌*◌, ◌/◌, ◌%◌, ◌<◌, ◌≤◌, ◌^◌}
use mathlib.Core.Bool.{Bool, true, false, cond}
use mathlib.Core.List.{List, [], ◌∷◌, append_assoc}
use mathlib.Core.Path.{◌≡◌, refl, sym, ap, subst, ◌∙◌}
use native.Mathlib.Decide.{dec_le}
use native.Mathlib.Omega.{arith}
use borrow.Author.Tests.{ne_eqb}
use lib.IntN.{ℤ}
use lib.ListN.{length, take, drop, set, get_or, length-take, length-set, get_or-eq_default}
use lib.Seq.{sets, sets-eq, get_or-set_other, set-get_or}
use Rattle.bits.specs.Numbers.{to_bits}
use Rattle.bits.specs.Storing.{splice}
use Rattle.bits.specs.Bytes.{bits_of}
use Rattle.bits.proofs.Numbers.{to_bits_length}
use Rattle.bits.proofs.Bytes.{bits_of_length}
use Rattle.bits.proofs.Splices.{splice_none}
use Rattle.bits.proofs.Straight.{straight, straight_shift, straight_fits, five_stored}
use Rattle.meaning.specs.Steps.{Got, and_then}
use Rattle.meaning.specs.Steps.Got.{ok}
use Rattle.meaning.specs.Writing.{write_extension}
use Rattle.walking.specs.Packed.{place_room, refused_from, farthest, up_to, went_by}
use Rattle.walking.specs.Walked.{Walked, Answered, silent, opened}
use Rattle.walking.specs.Went.{Went}
use Rattle.walking.specs.Went.Went.{On}
use Rattle.walking.proofs.Laws.{Ran, ran, then, stops, nothing}
use Rattle.walking.proofs.Packed.{went_on, went_no}
use Rattle.writing.specs.Target.{target, with_five, Clean, Stored, begun_by, Stands}

-- ---- clean behind what was put out

get_d_sets : (s : List ℕ) (c : ℕ) (vs : List ℕ) (i : ℕ) → c + length vs ≤ i → get_or (sets s c vs) i 0 ≡ get_or s i 0
get_d_sets s c [] i h = refl
get_d_sets s c (v ∷ vs) i h = get_d_sets (set s c v) (suc c) vs i (omega arith) ∙ get_or-set_other s c i v 0 (λ e. omega arith)

-- past the room the place lies behind everything
clean_on : {X : Type 0} {agrees : X → ℕ → Type 0} {end : ℕ} {g : Got ℕ X} {s s' : List ℕ} {at n q next : ℕ} → Ran agrees end g s at n q next s' → Clean s at → Clean s' next
clean_on {s = s} {s'} {at} {next = next} R C =
    record {
      few = omega (arith, R.kept, C.few);
      zeros = λ i h. elim (dec_le (at + length R.out) (length s)) [
        | yes room ↦ ap (λ (l : List ℕ). get_or l i 0) (R.stored room) ∙ get_d_sets s at R.out i (omega (arith, R.counted, C.few)) ∙ C.zeros i (omega (arith, R.counted, C.few))
        | no far ↦ get_or-eq_default s' 0 (omega (arith, R.counted, R.kept, C.few))
      ];
    }

pub stands_on : {X : Type 0} {cells : List ℤ} {k : ℕ} {out : List ℕ} {at q next : ℕ} {g : Got ℕ X} {after : List ℕ} → Stands cells k out at → Walked silent (length cells) g (target out) at (On 0 q next) (target after) → Stands cells q after next
stands_on S t =
    let R = ran refl t in
    record { few = S.few; place = R.within; near = omega (arith, R.counted); clean = clean_on R S.clean }

-- ---- a packed answer is taken apart or handed on, and an answer is followed by another step

pub unpacked : {X : Type 0} {end : ℕ} {g : Got ℕ X} {s s' : List ℕ} {c : ℕ} (r : ℕ) → r < refused_from → Walked silent end g s c (went_by r) s' → Walked silent end g s c (On 0 (r % place_room) (r / place_room)) s'
unpacked r h t = rw (went_on r h) at t

pub roomy : {s : List ℕ} {at : ℕ} → Clean s at → length s ≤ farthest
roomy C = omega (arith, C.few)

pub handed_on : {X Y : Type 0} {end : ℕ} {g : Got ℕ X} {s s' s'' : List ℕ} {c : ℕ} (k : X → ℕ → Got ℕ Y) (r : ℕ) → refused_from ≤ r → Walked silent end g s c (went_by r) s' → Walked silent end (and_then g k) s c (went_by r) s''
handed_on {end = end} {g} {s} {s'' = s''} {c} k r h t = let e = went_no r h in subst (λ (w : Went). Walked silent end (and_then g k) s c w s'') (sym e) (stops k e t)

pub followed : {X Y : Type 0} {end : ℕ} {g : Got ℕ X} {s s' s'' : List ℕ} {c q c' : ℕ} {r₂ : Went} (k : X → ℕ → Got ℕ Y) → Clean s c → Walked silent end g s c (On 0 q c') s' → ((R : Ran silent end g s c 0 q c' s') → Walked silent end (k R.x q) s' c' r₂ s'') → Walked silent end (and_then g k) s c r₂ s''
followed k C t u = then k (roomy C) refl t u

-- ---- what was stored is what was put out

splice_sets : (s : List ℕ) (at : ℕ) (l : List ℕ) → at + length l ≤ length s → splice s at l ≡ sets s at l
splice_sets s at l h = sym (sets-eq l s at h ∙ append_assoc (take at s) l (drop (at + length l) s))

pub put_out : (w n : ℕ) {X : Type 0} {end : ℕ} {g : Got ℕ X} {s s' : List ℕ} {at q next : ℕ} {x : X} → g ≡ ok x (to_bits w n) q → q ≤ end → next ≡ up_to (at + w) → Stored s at (to_bits w n) s' → Walked silent end g s at (On 0 q next) s'
unfolding Answered
put_out w n {s = s} {s'} {at} {q} {next} eg h en P =
    let len = to_bits_length w n in
    let count : next ≡ up_to (at + length (to_bits w n)) = omega arith in
    rw eg (record { told = (0, ap (On 0 q) count, tt, P.kept, λ room. P.stored room ∙ splice_sets s at (to_bits w n) room, h) })

-- ---- an extension bit is 0, as all that stands there is

pub begun_walked : (cells : List ℤ) (mark k end : ℕ) {s : List ℕ} {at p : ℕ} → Clean s at → at ≤ farthest → k ≤ end → p ≡ begun_by mark at → Walked silent end (opened mark (write_extension cells) k) s at (On 0 k p) s
unfolding Answered opened write_extension
begun_walked cells mark k end {s} {at} {p} C near h ep = go mark ep
  where
    go : (m : ℕ) → p ≡ begun_by m at → Walked silent end (opened m (write_extension cells) k) s at (On 0 k p) s
    go zero e = rw e (nothing h near)
    go (suc m) e =
        let isnt : lib.Dec.eqb (suc m) 0 ≡ false = ne_eqb (suc m) 0 (λ z. omega arith) in
        let place : p ≡ up_to (at + 1) = rw isnt at e in
        rw isnt (record { told = (0, ap (On 0 k) place, tt, refl, λ room. sym (ap (set s at) (sym (C.zeros at (omega arith))) ∙ set-get_or s at 0), h) })

-- a place that is farther is clean too
pub cleaner : {s : List ℕ} {at p : ℕ} → at ≤ p → Clean s at → Clean s p
cleaner h C = record { few = C.few; zeros = λ i l. C.zeros i (omega arith) }

pub begun_stands : (mark : ℕ) {cells : List ℤ} {k : ℕ} {out : List ℕ} {at p : ℕ} → Stands cells k out at → p ≡ begun_by mark at → Stands cells k out p
begun_stands mark {at = at} {p} S e = record { few = S.few; place = S.place; near = farther.1; clean = cleaner farther.0 S.clean }
  where
    go : (b : Bool) → p ≡ cond b at (up_to (at + 1)) → (at ≤ p) × (p ≤ farthest)
    go true e = (omega arith, omega (arith, S.near))
    go false e = (omega (arith, S.near), omega arith)

    farther : (at ≤ p) × (p ≤ farthest)
    farther = go (lib.Dec.eqb mark 0) e

-- ---- the straight store, in bytes of which the last four are spare

module _ (d : List ℕ) (at w n : ℕ) (narrow : w ≤ 32) (held : n < 2 ^ w) (C : Clean (target d) at) (inside : at / 8 + 4 < length d) (byte : get_or d (at / 8) 0 < 256) where
  abbrev new : ℕ
  new = n * 2 ^ (40 - w - at % 8)

  size : length d ≡ length d - 4 + 4
  size = omega arith

  early : at < 8 * (length d - 4)
  early = omega arith

  pub put_shift : new % 2 ^ 64 ≡ new
  put_shift = straight_shift (length d - 4) d size at w n C.zeros early (omega arith) held

  pub put_fits : get_or d (at / 8) 0 + new / 2 ^ 32 < 256
  put_fits = straight_fits (length d - 4) d size at w n C.zeros early (omega arith) held byte

  pub put_near : at + w ≤ farthest
  put_near = omega (arith, C.few, bits_of_length (take (length d - 4) d), length-take (length d - 4) d)

  stored_size : (v : ℕ) → length (five_stored d (at / 8) (get_or d (at / 8) 0 + v / 2 ^ 32) v) ≡ length d
  stored_size v = simp length-set

  put_stored : {v : ℕ} → v ≡ new → Stored (target d) at (to_bits w n) (target (five_stored d (at / 8) (get_or d (at / 8) 0 + v / 2 ^ 32) v))
  put_stored {v} ev =
      let D = five_stored d (at / 8) (get_or d (at / 8) 0 + v / 2 ^ 32) v in
      let same : length D ≡ length d = stored_size v in
      let lens : length (target d) ≡ 8 * (length d - 4) = omega (arith, bits_of_length (take (length d - 4) d), length-take (length d - 4) d) in
      record {
        kept = bits_of_length (take (length D - 4) D) ∙ omega (arith, length-take (length D - 4) D, lens);
        stored = λ room. ap (λ (k : ℕ). bits_of (take (k - 4) D)) same ∙ ap (λ (x : ℕ). bits_of (take (length d - 4) (five_stored d (at / 8) (get_or d (at / 8) 0 + x / 2 ^ 32) x))) ev
            ∙ straight (length d - 4) d size at w n C.zeros early (40 - w - at % 8) (omega arith) (omega (arith, to_bits_length w n, lens)) held byte;
      }

  pub put_done : {v : ℕ} {after : List ℕ} → v ≡ new → after ≡ with_five d (at / 8) v → Stored (target d) at (to_bits w n) (target after)
  unfolding with_five
  put_done {v} {after} ev e = subst (λ (l : List ℕ). Stored (target d) at (to_bits w n) (target l)) (sym e) (put_stored ev)

-- where the store would not be inside, there is room for no bits only
pub not_stored : (d : List ℕ) (at w n : ℕ) → ¬ (at / 8 + 4 < length d) → Stored (target d) at (to_bits w n) (target d)
unfolding to_bits
not_stored d at w n far =
    record {
      kept = refl;
      stored = λ room.
          let len = to_bits_length w n in
          let none : w ≡ 0 = omega (arith, bits_of_length (take (length d - 4) d), length-take (length d - 4) d) in
          sym (rw none (splice_none (target d) at));
    }

pub put_none : (d : List ℕ) (at n : ℕ) {w : ℕ} → w ≡ 0 → Stored (target d) at (to_bits w n) (target d)
unfolding to_bits
put_none d at n e = record { kept = refl; stored = λ room. sym (rw e (splice_none (target d) at)) }
