-- The row of a Description and the walk through one, in the terms of code that takes it without the table; the same for reading and writing.
-- Assumes nothing.
use Prim.Native.Nat.{ℕ, zero, suc, ◌+◌, ◌<◌, ◌≤◌, ◌^◌}
use mathlib.Core.List.{List, [], ◌++◌, append-nil}
use mathlib.Core.Path.{◌≡◌, refl, sym, ap, subst, ◌∙◌}
use native.Mathlib.Omega.{arith}
use lib.ListN.{length, length-append}
use Rattle.bits.specs.Numbers.{halvings, width}
use Rattle.bits.proofs.Numbers.{width_holds}
use Rattle.types.specs.Shape.{Field, index_in, size_in, last}
use Rattle.types.specs.Shape.Ty.{num, list}
use Rattle.types.specs.Table.{type_of, the_rows}
use Rattle.types.specs.Named.{named_row}
use Rattle.std.specs.Prelude.{Some}
use Rattle.types.proofs.Description.{character, octet, texts, description_type}
use Rattle.meaning.specs.Values.{Value, Values, chosen}
use Rattle.meaning.specs.Steps.{Got, pure, and_then, ◌>>=◌}
use Rattle.meaning.specs.Steps.Got.{ok}
use Rattle.meaning.specs.Walk.{Side, times, walk, alternative}
use Rattle.meaning.specs.Messages.{row_named}
use Rattle.meaning.proofs.NamedRows.{named_is_row}
use Rattle.meaning.proofs.Steps.{Came, came}
use Rattle.walking.proofs.Rows.{walk_number, walk_sized}

pub description_named : row_named 129 ≡ Some 129
unfolding named_row
description_named = named_is_row 1 129 refl

-- ---- the size of a string takes nine bits

module _ {span : ℕ} (nine : width span ≡ 9) where
  pub size_few : span < 512
  size_few = let held : span < 2 ^ 9 = subst (λ (w : ℕ). span < 2 ^ w) nine (width_holds span) in omega arith

  pub size_some : span ≡ 0 → ⊥
  unfolding halvings
  size_some z = let none : width 0 ≡ 9 = subst (λ (n : ℕ). width n ≡ 9) z nine in omega arith

-- ---- the walk

module _ {I B : Type 0} (S : Side I B) (input : I) where
  pub walk_text : (at : ℕ) → walk (type_of the_rows 129) S input at ≡ and_then (S.whole (index_in 129 1) input at) (λ n i. and_then (alternative texts n S input i) (λ v j. ok (chosen n v) [] j))
  unfolding walk last ◌>>=◌ pure
  walk_text at = rw description_type refl

  pub first_text : alternative texts 0 S input ≡ walk (list 125 1 511 (num character)) S input
  unfolding alternative
  first_text = refl

  pub second_text : alternative texts 1 S input ≡ walk (list 126 2 510 (num octet)) S input
  unfolding alternative
  second_text = refl

-- ---- how much is put out, by the places that it is from and to: a claim of items, one of strings and one of a Description, each from the number that stands in front

-- what a step told, where what follows puts nothing out
heard : {B X Y : Type 0} (g : Got B X) (h : X → Y) {y : Y} {out : List B} {j : ℕ} → and_then g (λ x i. ok (h x) [] i) ≡ ok y out j → (x : X) × (g ≡ ok x out j)
heard g h {out = out} {j} e =
    let C = came e in
    let none : [] ≡ C.more = cc in
    let end : C.then ≡ j = cc in
    let same : C.first ≡ out = sym (append-nil C.first) ∙ ap (λ l. C.first ++ l) none ∙ C.both in
    (C.told, C.at_first ∙ rw (same, end) refl)

module _ {I B : Type 0} (S : Side I B) (input : I) where
  -- a number stands in front
  abbrev pub InFront : Field → (ℕ → ℕ → ℕ → Type 0) → (ℕ → ℕ → ℕ → Type 0) → Type 0
  InFront f Q T = (i m n : ℕ) (o : List B) → S.whole f input i ≡ ok n o m → (j a : ℕ) → Q m j a → T i j (length o + a)

  module _ (Items Strings Whole : ℕ → ℕ → ℕ → Type 0) (none : (i : ℕ) → Items i i 0) (item : (f : Field) → 7 ≤ width f.span → width f.span ≤ 8 → InFront f Items Items) (size : (f : Field) → width f.span ≡ 9 → InFront f Items Strings) (index : InFront (index_in 129 1) Strings Whole) where
    put : {X Y : Type 0} {g : Got B X} {k : X → ℕ → Got B Y} {i j : ℕ} {y : Y} {out : List B} (T : ℕ → ℕ → ℕ → Type 0) (C : Came g k j y out) → T i j (length C.first + length C.more) → T i j (length out)
    put {i = i} {j} T C t = subst (T i j) (sym (length-append C.first C.more) ∙ ap length C.both) t

    module _ (f : Field) (least-width : 7 ≤ width f.span) (most-width : width f.span ≤ 8) where
      items_put : (n k q : ℕ) (vs : Values) (out : List B) → times n (walk (num f) S) input k ≡ ok vs out q → Items k q (length out)
      unfolding times ◌>>=◌ pure
      items_put zero k q vs out e =
          let nothing : [] ≡ out = cc in
          let end : k ≡ q = cc in
          rw (← nothing, ← end) (none k)
      items_put (suc n) k q vs out e =
          let C = came e in
          let first = heard _ _ (sym (walk_number S input f k) ∙ C.at_first) in
          let others = heard _ _ C.at_more in
          put Items C (item f least-width most-width k C.then first.0 C.first first.1 q (length C.more) (items_put n C.then q others.0 C.more others.1))

      string_put : (row least span k q : ℕ) (v : Value) (out : List B) → width span ≡ 9 → walk (list row least span (num f)) S input k ≡ ok v out q → Strings k q (length out)
      string_put row least span k q v out nine e =
          let C = came (sym (walk_sized S input row least span (num f) k (size_some nine)) ∙ e) in
          let others = heard _ _ C.at_more in
          put Strings C (size (size_in row least span) nine k C.then C.told C.first C.at_first q (length C.more) (items_put (least + C.told) C.then q others.0 C.more others.1))

    pub text_put : (q : ℕ) (v : Value) (out : List B) → walk (type_of the_rows 129) S input 0 ≡ ok v out q → Whole 0 q (length out)
    unfolding alternative halvings
    text_put q v out e =
        let C = came (sym (walk_text S input 0) ∙ e) in
        let others = heard _ _ C.at_more in
        put Whole C (index 0 C.then C.told C.first C.at_first q (length C.more) (by C.told C.then others.0 C.more others.1))
      where
        by : (n i : ℕ) (u : Value) (more : List B) → alternative texts n S input i ≡ ok u more q → Strings i q (length more)
        by zero i u more t = string_put character (omega arith) (omega arith) 125 1 511 i q u more refl t
        by (suc n) i u more t = string_put octet (omega arith) (omega arith) 126 2 510 i q u more refl t
