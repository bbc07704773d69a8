-- Laws of lines: the first line and those behind it, as the code finds them; and lines that were written one behind the other.
-- Assumes nothing.
use Prim.Native.Nat.{ℕ, suc, ◌+◌, ◌-◌, ◌<◌, ◌≤◌}
use mathlib.Core.Bool.{Bool, true, false, cond, not}
use mathlib.Core.List.{List, [], ◌∷◌}
use mathlib.Core.Path.{◌≡◌, refl, sym, ap, ap₂, ◌∙◌}
use native.Mathlib.Decide.{dec_lt}
use native.Mathlib.Omega.{arith}
use borrow.Author.Tests.{lt-ltb}
use lib.Dec.{eqb, ltb}
use lib.ListN.{length, take, drop, length-drop}
use lib.Seq.{drop-drop, take_all}
use Rattle.std.specs.Prelude.{Option, Some, None, position, ◌==◌}
use Rattle.std.specs.List.{position_or_len}
use Rattle.printing.specs.Characters.{line_end}
use Rattle.parsing.specs.Lines.{begun, lines, line_length}

-- ---- the first line

pub line_inside : (text : List ℕ) → line_length text ≤ length text
unfolding line_length
line_inside [] = omega arith
line_inside (b ∷ text) = go (eqb b line_end) (line_inside text)
  where
    go : (e : Bool) → line_length text ≤ length text → cond e 0 (suc (line_length text)) ≤ suc (length text)
    go true h = omega arith
    go false h = omega arith

-- a text that is not empty is its first line and the lines behind
pub first_line : (text : List ℕ) → 0 < length text → lines text ≡ take (line_length text) text ∷ lines (drop (suc (line_length text)) text)
unfolding lines line_length begun
first_line [] h = absurd (omega arith)
first_line (b ∷ []) h = go (eqb b line_end)
  where
    go : (e : Bool) → cond e ([] ∷ []) ((b ∷ []) ∷ []) ≡ take (cond e 0 1) (b ∷ []) ∷ lines (drop (suc (cond e 0 1)) (b ∷ []))
    go true = refl
    go false = refl
first_line (b ∷ (d ∷ text)) h = go (eqb b line_end) (first_line (d ∷ text) (omega arith))
  where
    rest : List ℕ
    rest = d ∷ text

    go : (e : Bool) → lines rest ≡ take (line_length rest) rest ∷ lines (drop (suc (line_length rest)) rest)
        → cond e ([] ∷ lines rest) (begun b (lines rest)) ≡ take (cond e 0 (suc (line_length rest))) (b ∷ rest) ∷ lines (drop (suc (cond e 0 (suc (line_length rest)))) (b ∷ rest))
    go true i = refl
    go false i = ap (begun b) i

-- ---- as std finds its end

break_length : (text : List ℕ) → position_or_len (λ b. b == line_end) text ≡ line_length text
unfolding line_length
break_length [] = refl
break_length (b ∷ text) = go (eqb b line_end) (break_length text)
  where
    go : (e : Bool) {n m : ℕ} → n ≡ m → cond (not e) (1 + n) 0 ≡ cond e 0 (suc m)
    go true same = refl
    go false same = omega arith

module _ (text : List ℕ) {found : Option ℕ} (e : found ≡ position (λ b. b == line_end) text) where
  abbrev place : ℕ
  place = position_or_len (λ b. b == line_end) text

  pub break_found : {n : ℕ} → found ≡ Some n → n ≡ line_length text
  break_found {n} u = go (ltb place (length text)) (sym u ∙ e)
    where
      go : (b : Bool) → ◌≡◌ {A = Option ℕ} (Some n) (cond b (Some place) None) → n ≡ line_length text
      go true v = let same : n ≡ place = cc in same ∙ break_length text
      go false v = absurd (let z : ◌≡◌ {A = ℕ} 0 1 = cc in omega arith)

  pub break_none : found ≡ None → line_length text ≡ length text
  break_none u = go (dec_lt place (length text)) (sym u ∙ e)
    where
      go : Dec (place < length text) → ◌≡◌ {A = Option ℕ} None (cond (ltb place (length text)) (Some place) None) → line_length text ≡ length text
      go (yes h) v =
          let never : ◌≡◌ {A = Option ℕ} None (Some place) = rw (lt-ltb place (length text) h) at v in
          absurd (let z : ◌≡◌ {A = ℕ} 0 1 = cc in omega arith)
      go (no h) v = omega (arith, break_length text, line_inside text)

-- what a slice from a place on holds
pub rest_all : (text : List ℕ) (at : ℕ) → take (length text - at) (drop at text) ≡ drop at text
rest_all text at = take_all (length text - at) (drop at text) (omega (arith, length-drop at text))

-- the line from a place on, and the lines behind it
pub line_at : (text : List ℕ) (at end : ℕ) → at < length text → end ≡ at + line_length (drop at text)
    → lines (drop at text) ≡ take (end - at) (drop at text) ∷ lines (drop (end + 1) text)
line_at text at end h e =
    let k : end - at ≡ line_length (drop at text) = omega arith in
    let j : at + suc (line_length (drop at text)) ≡ end + 1 = omega arith in
    first_line (drop at text) (omega (arith, length-drop at text))
    ∙ ap₂ (λ (n : ℕ) (l : List ℕ). take n (drop at text) ∷ lines l) (sym k) (drop-drop (suc (line_length (drop at text))) at text ∙ ap (λ (n : ℕ). drop n text) j)
