-- The sheet of a header, an RSI with neither list, taken apart: its presence cells, and what is written of its components.
-- Assumes nothing.
use Prim.Native.Nat.{ℕ, zero, suc, ◌+◌}
use native.Mathlib.Omega.{arith}
use mathlib.Core.Path.{◌≡◌, refl, sym, ap, ap₂, subst, ◌∙◌}
use mathlib.Core.Bool.{true, false}
use mathlib.Core.List.{List, [], ◌∷◌}
use lib.IntN.{ℤ}
use lib.ListN.{length, length-append}
use Rattle.types.specs.Shape.{Ty, Fields, Alts, Field, index_in, last}
use Rattle.types.specs.Shape.Ty.{seq, choice}
use Rattle.types.specs.Shape.Fields.{none, must, may}
use Rattle.types.specs.Shape.Alts.{one, or}
use Rattle.meaning.specs.Values.{Value, sequence, chosen, Parts}
use Rattle.meaning.specs.Steps.{ok, pure, ◌>>=◌}
use Rattle.meaning.specs.Walk.{flags, walk, fields, alternative}
use Rattle.meaning.specs.Writing.{write_whole, write_extension, writer, write}
use Rattle.meaning.proofs.Steps.{Came, bound}
use Rattle.meaning.proofs.Sides.{WriteWhole, write_whole_lem}
use Rattle.sheet.specs.Values.{has, parts_of}
use Rattle.sheet.proofs.Apart.{optionals, must_apart, may_apart, absent_apart}
use Rattle.packing.proofs.Types.{ty, frame_type, rsi_type}
use Rattle.packing.proofs.Flags.{Shown, Flags, flags_apart}

-- the components of an RSI, and the messages of a frame
abbrev behind_moy : Fields
behind_moy = must (ty 388) (must (ty 137) (may (ty 343) (may (ty 354) none)))

abbrev pub components : Fields
components = must (ty 47) (may (ty 46) behind_moy)

abbrev pub messages : Alts
messages = or (ty 383) (or (ty 387) (or (ty 401) (or (ty 407) (one (ty 395)))))

abbrev pub index : Field
index = index_in 413 (last messages)

-- a component that is there can't be told as absent
apart : {P : Type 0} → ◌≡◌ true false → P
apart e = absurd (let z : ◌≡◌ {A = ℕ} 0 1 = cc in omega arith)

-- ---- neither list is there

module _ (cells : List ℤ) (b c : ℕ) where
  last_two : (p : ℕ) {parts : Parts} {out : List ℕ} {q : ℕ} → fields (may (ty 343) (may (ty 354) none)) (b ∷ c ∷ []) writer cells p ≡ ok parts out q → has 0 parts ≡ false → has 1 parts ≡ false → (b ≡ 0) × (c ≡ 0)
  unfolding has
  last_two p {parts} e events signs = by_b b refl
    where
      by_c : (n : ℕ) → c ≡ n → {rest : Parts} {out : List ℕ} {q : ℕ} → fields (may (ty 354) none) (c ∷ []) writer cells p ≡ ok rest out q → has 0 rest ≡ false → n ≡ 0
      by_c zero z f h = refl
      by_c (suc n) z f h = let T = may_apart cells (ty 354) none c [] p (λ y. omega arith) f in apart (ap (has 0) (sym T.is) ∙ h)

      by_b : (n : ℕ) → b ≡ n → (b ≡ 0) × (c ≡ 0)
      by_b zero z =
          let A = absent_apart cells (ty 343) (may (ty 354) none) b (c ∷ []) p z e in
          (z, by_c c refl A.behind (ap (has 1) (sym A.is) ∙ signs))
      by_b (suc n) z = let T = may_apart cells (ty 343) (may (ty 354) none) b (c ∷ []) p (λ y. omega arith) e in apart (ap (has 0) (sym T.is) ∙ events)

  all_six : (a p : ℕ) {parts : Parts} {out : List ℕ} {q : ℕ} → fields components (a ∷ b ∷ c ∷ []) writer cells p ≡ ok parts out q → has 4 parts ≡ false → has 5 parts ≡ false → (b ≡ 0) × (c ≡ 0)
  unfolding has
  all_six a p {parts} e events signs = by_a a refl
    where
      behind : (i : ℕ) {rest : Parts} {out : List ℕ} {q : ℕ} → fields behind_moy (b ∷ c ∷ []) writer cells i ≡ ok rest out q → has 2 rest ≡ false → has 3 rest ≡ false → (b ≡ 0) × (c ≡ 0)
      behind i f h k =
          let T = must_apart cells (ty 388) (must (ty 137) (may (ty 343) (may (ty 354) none))) (b ∷ c ∷ []) i f in
          let U = must_apart cells (ty 137) (may (ty 343) (may (ty 354) none)) (b ∷ c ∷ []) T.next T.behind in
          last_two U.next U.behind (ap (has 1) (sym U.is) ∙ ap (has 2) (sym T.is) ∙ h) (ap (has 2) (sym U.is) ∙ ap (has 3) (sym T.is) ∙ k)

      by_a : (n : ℕ) → a ≡ n → (b ≡ 0) × (c ≡ 0)
      by_a zero z =
          let T = must_apart cells (ty 47) (may (ty 46) behind_moy) (a ∷ b ∷ c ∷ []) p e in
          let A = absent_apart cells (ty 46) behind_moy a (b ∷ c ∷ []) T.next z T.behind in
          behind T.next A.behind (ap (has 3) (sym A.is) ∙ ap (has 4) (sym T.is) ∙ events) (ap (has 4) (sym A.is) ∙ ap (has 5) (sym T.is) ∙ signs)
      by_a (suc n) z =
          let T = must_apart cells (ty 47) (may (ty 46) behind_moy) (a ∷ b ∷ c ∷ []) p e in
          let U = may_apart cells (ty 46) behind_moy a (b ∷ c ∷ []) T.next (λ y. omega arith) T.behind in
          behind U.next U.behind (ap (has 3) (sym U.is) ∙ ap (has 4) (sym T.is) ∙ events) (ap (has 4) (sym U.is) ∙ ap (has 5) (sym T.is) ∙ signs)

-- ---- the whole sheet of a header

-- what is written of it: the index of the message, the three presence bits, and the components; with an extension bit before the index and one before the presence bits
pub record Header (cells : List ℤ) (size : ℕ) : Type 0 where
  pub index_bits : List ℕ
  pub chooses : write_whole index cells 0 ≡ ok 4 index_bits 1
  pub moy : ℕ
  pub shown : Shown cells 1 (moy ∷ 0 ∷ 0 ∷ [])
  pub parts : Parts
  pub bits : List ℕ
  pub written : fields components (moy ∷ 0 ∷ 0 ∷ []) writer cells 4 ≡ ok parts bits (length cells)
  pub many : size ≡ 5 + length index_bits + length bits

three : (ns : List ℕ) → length ns ≡ 3 → (a : ℕ) × (b : ℕ) × (c : ℕ) × (ns ≡ a ∷ b ∷ c ∷ [])
three [] e = absurd (omega arith)
three (a ∷ []) e = absurd (omega arith)
three (a ∷ b ∷ []) e = absurd (omega arith)
three (a ∷ b ∷ c ∷ []) e = (a, b, c, refl)
three (a ∷ b ∷ c ∷ d ∷ ns) e = absurd (omega arith)

module _ (cells : List ℤ) {rsi : Value} {out : List ℕ} (e : write (ty 413) cells 0 ≡ ok (chosen 4 rsi) out (length cells)) (events : has 4 (parts_of rsi) ≡ false) (signs : has 5 (parts_of rsi) ≡ false) where
  abbrev end : ℕ
  end = length cells

  -- behind the extension bit of the frame
  C₁ : Came (write_extension cells 0) (λ x. write (choice 413 messages) cells) end (chosen 4 rsi) out
  unfolding walk
  C₁ = bound write_extension (λ x. write (choice 413 messages)) cells 0 (ap (λ (t : Ty). write t cells 0) (sym frame_type) ∙ e)

  -- the index of the message
  C₂ : Came (write_whole index cells C₁.then) (λ n. (alternative messages n writer >>= (λ v. pure (chosen n v))) cells) end (chosen 4 rsi) C₁.more
  unfolding walk
  C₂ = bound (write_whole index) (λ n. alternative messages n writer >>= (λ v. pure (chosen n v))) cells C₁.then C₁.at_more

  C₃ : Came (alternative messages C₂.told writer cells C₂.then) (λ v. pure (chosen C₂.told v) cells) end (chosen 4 rsi) C₂.more
  C₃ = bound (alternative messages C₂.told writer) (λ v. pure (chosen C₂.told v)) cells C₂.then C₂.at_more

  start : 0 ≡ C₁.then
  unfolding write_extension
  start = cc C₁.at_first

  W : WriteWhole cells index C₁.then C₂.then C₂.told C₂.first
  W = write_whole_lem cells index C₁.then C₂.at_first

  second : C₂.then ≡ 1
  second = omega (arith, W.next, start)

  is_rsi : C₂.told ≡ 4
  unfolding pure
  is_rsi = cc C₃.at_more

  inner_is : C₃.told ≡ rsi
  unfolding pure
  inner_is = cc C₃.at_more

  ends₃ : C₃.then ≡ end
  unfolding pure
  ends₃ = cc C₃.at_more

  rsi_written : write (ty 395) cells 1 ≡ ok rsi C₃.first end
  unfolding alternative
  rsi_written =
      ap₂ (λ (n i : ℕ). alternative messages n writer cells i) (sym is_rsi) (sym second) ∙ C₃.at_first ∙ ap₂ (λ (v : Value) (n : ℕ). ok v C₃.first n) inner_is ends₃

  -- behind the extension bit of the RSI
  C₄ : Came (write_extension cells 1) (λ x. write (seq components) cells) end rsi C₃.first
  unfolding walk
  C₄ = bound write_extension (λ x. write (seq components)) cells 1 (ap (λ (t : Ty). write t cells 1) (sym rsi_type) ∙ rsi_written)

  start₄ : 1 ≡ C₄.then
  unfolding write_extension
  start₄ = cc C₄.at_first

  C₅ : Came (flags components writer cells C₄.then) (λ ns. (fields components ns writer >>= (λ parts. pure (sequence parts))) cells) end rsi C₄.more
  unfolding walk
  C₅ = bound (flags components writer) (λ ns. fields components ns writer >>= (λ parts. pure (sequence parts))) cells C₄.then C₄.at_more

  C₆ : Came (fields components C₅.told writer cells C₅.then) (λ parts. pure (sequence parts) cells) end rsi C₅.more
  C₆ = bound (fields components C₅.told writer) (λ parts. pure (sequence parts)) cells C₅.then C₅.at_more

  F : Flags cells components C₄.then C₅.told C₅.first C₅.then
  F = flags_apart cells components C₄.then C₅.told C₅.first C₅.then C₅.at_first

  ends₆ : C₆.then ≡ end
  unfolding pure
  ends₆ = cc C₆.at_more

  value₆ : sequence C₆.told ≡ rsi
  unfolding pure
  value₆ = cc C₆.at_more

  none₃ : [] ≡ C₃.more
  unfolding pure
  none₃ = cc C₃.at_more

  none₆ : [] ≡ C₆.more
  unfolding pure
  none₆ = cc C₆.at_more

  one₁ : length C₁.first ≡ 1
  unfolding write_extension
  one₁ = let z : 0 ∷ [] ≡ C₁.first = cc C₁.at_first in ap length (sym z)

  one₄ : length C₄.first ≡ 1
  unfolding write_extension
  one₄ = let z : 0 ∷ [] ≡ C₄.first = cc C₄.at_first in ap length (sym z)

  many : length out ≡ 5 + length C₂.first + length C₆.first
  unfolding optionals
  many =
      let a = ap length (sym C₁.both) ∙ length-append C₁.first C₁.more in
      let b = ap length (sym C₂.both) ∙ length-append C₂.first C₂.more in
      let c = ap length (sym C₃.both) ∙ length-append C₃.first C₃.more in
      let d = ap length (sym C₄.both) ∙ length-append C₄.first C₄.more in
      let f = ap length (sym C₅.both) ∙ length-append C₅.first C₅.more in
      let g = ap length (sym C₆.both) ∙ length-append C₆.first C₆.more in
      omega (arith, a, b, c, d, f, g, ap length (sym none₃), ap length (sym none₆), one₁, one₄, F.bits)

  from_four : C₅.then ≡ 4
  unfolding optionals
  from_four = omega (arith, F.next, start₄)

  all_three : length C₅.told ≡ 3
  unfolding optionals
  all_three = F.many

  pub header_apart : Header cells (length out)
  unfolding parts_of
  header_apart =
      let T = three C₅.told all_three in
      let w : fields components (T.0 ∷ T.1 ∷ T.2 ∷ []) writer cells 4 ≡ ok C₆.told C₆.first end =
      ap₂ (λ (ns : List ℕ) (i : ℕ). fields components ns writer cells i) (sym T.3) (sym from_four) ∙ C₆.at_first ∙ ap (ok C₆.told C₆.first) ends₆ in
      let parts_are : parts_of rsi ≡ C₆.told = ap parts_of (sym value₆) in
      let Z = all_six cells T.1 T.2 T.0 4 w (ap (has 4) (sym parts_are) ∙ events) (ap (has 5) (sym parts_are) ∙ signs) in
      let ns : C₅.told ≡ T.0 ∷ 0 ∷ 0 ∷ [] = T.3 ∙ ap₂ (λ (b c : ℕ). T.0 ∷ b ∷ c ∷ []) Z.0 Z.1 in
      record {
        index_bits = C₂.first;
        chooses = ap (write_whole index cells) start ∙ C₂.at_first ∙ ap₂ (λ (n i : ℕ). ok n C₂.first i) is_rsi second;
        moy = T.0;
        shown = subst (λ (ms : List ℕ). Shown cells 1 ms) ns (subst (λ (i : ℕ). Shown cells i C₅.told) (sym start₄) F.shown);
        parts = C₆.told;
        bits = C₆.first;
        written = ap₂ (λ (b c : ℕ). fields components (T.0 ∷ b ∷ c ∷ []) writer cells 4) (sym Z.0) (sym Z.1) ∙ w;
        many = many;
      }
