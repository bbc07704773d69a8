-- The law of appending: a piece of text behind another is the two together. Every function that prints is proved by it.
-- Assumes nothing.
use Prim.Native.Nat.{ℕ, ◌+◌, ◌<◌, ◌≤◌, ◌^◌}
use mathlib.Core.List.{List, [], ◌∷◌, ◌++◌, append_assoc, append-nil}
use mathlib.Core.Path.{◌≡◌, refl, sym, ap, ap₂, subst, ◌∙◌}
use native.Mathlib.Decide.{dec_le}
use native.Mathlib.Numerals.{add-one}
use native.Mathlib.Omega.{arith}
use lib.ListN.{length, take, get_or, set, length-append}
use lib.Seq.{sets, length-sets, take-suc, set_out}
use Rattle.basics.specs.Counts.{largest, capped}
use Rattle.basics.proofs.Lists.{sets_append, sets_out}
use Rattle.printing.specs.Texts.{each}
use Rattle.printing.specs.Buffers.{Appended}

-- nothing is appended
pub append_none : {out : List ℕ} {at : ℕ} → at < 2 ^ 64 → Appended [] out at at out
append_none h = record { place = omega arith; bytes = refl }

-- a byte, where the buffer has the place and where it does not
pub append_inside : {out : List ℕ} {at b : ℕ} → at < length out → length out < 2 ^ 64 → Appended (b ∷ []) out at (at + 1) (set out at b)
append_inside h l = record { place = omega arith; bytes = refl }

pub append_outside : {out : List ℕ} {at b next : ℕ} → length out ≤ at → next ≡ capped (at + 1) → Appended (b ∷ []) out at next out
append_outside {out} {at} {b} h e = record { place = e; bytes = sym (set_out out at b h) }

-- behind a place that was capped nothing is stored
sets_capped : (s : List ℕ) (n : ℕ) (vs : List ℕ) → length s < 2 ^ 64 → sets s (capped n) vs ≡ sets s n vs
sets_capped s n vs h = go (dec_le n largest)
  where
    go : Dec (n ≤ largest) → sets s (capped n) vs ≡ sets s n vs
    go (yes l) = let e : capped n ≡ n = omega arith in ap (λ (k : ℕ). sets s k vs) e
    go (no l) = sets_out s (capped n) vs (omega arith) ∙ sym (sets_out s n vs (omega arith))

-- a piece, and then another behind it
pub then : {p q out out' out'' : List ℕ} {at next last : ℕ} → length out < 2 ^ 64 → Appended p out at next out' → Appended q out' next last out'' → Appended (p ++ q) out at last out''
then {p} {q} {out} {out'} {out''} {at} {next} {last} h a b =
    let l : length (sets out at p) < 2 ^ 64 = rw length-sets h in
    record {
      place = omega (arith, a.place, b.place, length-append p q);
      bytes =
          b.bytes
          ∙ ap₂ (λ (s : List ℕ) (k : ℕ). sets s k q) a.bytes a.place
          ∙ sets_capped (sets out at p) (at + length p) q l
          ∙ sym (sets_append out at p q);
    }

-- the buffer keeps its length
pub kept : {p out out' : List ℕ} {at next : ℕ} → Appended p out at next out' → length out' ≡ length out
kept {p} {out} {at = at} a = ap length a.bytes ∙ length-sets out at p

-- a text that equals another one
pub same_text : {p q out out' : List ℕ} {at next : ℕ} → p ≡ q → Appended p out at next out' → Appended q out at next out'
same_text {out = out} {out'} {at} {next} e a = subst (λ (s : List ℕ). Appended s out at next out') e a

-- ---- runs

-- one more byte of a text
pub one_more : (text : List ℕ) (i : ℕ) → i < length text → take i text ++ (get_or text i 0 ∷ []) ≡ take (i + 1) text
one_more text i h = sym (ap (λ (k : ℕ). take k text) (add-one i) ∙ take-suc text i 0 h)

module _ {A : Type 0} (text : A → List ℕ) where
  pub each_append : (xs ys : List A) → each text (xs ++ ys) ≡ each text xs ++ each text ys
  unfolding each
  each_append [] ys = refl
  each_append (x ∷ xs) ys = ap (λ (s : List ℕ). text x ++ s) (each_append xs ys) ∙ sym (append_assoc (text x) (each text xs) (each text ys))

  one_item : (x : A) → each text (x ∷ []) ≡ text x
  unfolding each
  one_item x = append-nil (text x)

  -- the texts of the first items, and then of one more
  pub each_more : (xs : List A) (i : ℕ) (d : A) → i < length xs → each text (take i xs) ++ text (get_or xs i d) ≡ each text (take (i + 1) xs)
  each_more xs i d h =
      sym
      (ap (λ (k : ℕ). each text (take k xs)) (add-one i)
      ∙ ap (each text) (take-suc xs i d h)
      ∙ each_append (take i xs) (get_or xs i d ∷ [])
      ∙ ap (λ (s : List ℕ). each text (take i xs) ++ s) (one_item (get_or xs i d)))

  -- nothing yet
  pub each_none : {out : List ℕ} {at : ℕ} (xs : List A) → at < 2 ^ 64 → Appended (each text (take 0 xs)) out at at out
  unfolding each
  each_none xs h = append_none h
