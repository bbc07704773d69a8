-- There is no plan at all where the planner makes none; and no plan that keeps the order of the entries across messages has fewer messages than the planner's.
-- Assumes nothing.
use Prim.Native.Nat.{ℕ, zero, suc, ◌+◌, ◌-◌, ◌<◌, ◌≤◌}
use native.Mathlib.Decide.{dec_le, dec_lt}
use native.Mathlib.Omega.{arith}
use mathlib.Core.Path.{◌≡◌, refl, sym, ap, ap₂, ◌∙◌}
use mathlib.Core.Bool.{Bool, true, not, ◌&&◌}
use mathlib.Core.List.{List, [], ◌∷◌, ◌++◌}
use borrow.Author.Tests.{lt-ltb, leb-true, le-leb}
use lib.Dec.{leb}
use lib.IntN.{ℤ, pos}
use lib.ListN.{length, get_or}
use Rattle.basics.specs.Lists.{natural}
use Rattle.bits.specs.Bytes.{octets_for}
use Rattle.messages.specs.Places.{At}
use Rattle.packing.specs.Entries.{pieces, entries_of, most_in}
use Rattle.packing.specs.Message.{joined, message_octets}
use Rattle.packing.specs.Sizes.{lengths_by, lengths_of}
use Rattle.packing.specs.Lengths.{Lengths}
use Rattle.packing.proofs.Tests.{both}
use Rattle.packing.proofs.Formed.{Input, input}
use Rattle.plans.specs.Plans.{is_in_order, is_empty, good_message}
use Rattle.plans.specs.Planner.{numbers_from, packed, made, planned}
use Rattle.plans.specs.Sentences.{Good, Limit, TooLong, Given}
use Rattle.plans.specs.Steps.{summed, good_by, Alone, most_from}
use Rattle.plans.proofs.Fitting.{fits_good}
use Rattle.plans.proofs.Packed.{numbers_long, numbers_in_order, numbers_joined, alone, most_bounds, packed_split}
use Rattle.plans.proofs.Planning.{fits_alone, alone_fits, makes_packed}
use Rattle.plans.proofs.Filling.{all_fit}
use Rattle.plans.proofs.Sized.{good_by_lem}

-- ---- a message is good by some sizes

pub record BySizes (signs : Bool) (count limit : ℕ) (right : List ℤ → Bool) : Type 0 where
  pub sizes : List ℕ
  pub base : ℕ
  pub same : (cells : List ℤ) → right cells ≡ good_by signs count sizes base limit cells

by_sizes : (kind : ℕ) (header entries : List ℤ) (limit : ℕ) {signs : Bool} {held : List (List ℤ)} → Given kind header entries signs held → Limit limit → BySizes signs (length held) limit (good_message signs header held limit)
unfolding lengths_of lengths_by
by_sizes kind header entries limit {signs} {held} G L =
    let is : lengths_of kind header entries ≡ lengths_by signs header (pieces held) = rw (lt-ltb kind 2 G.known, G.headed, G.is) (ap (lengths_by signs header) G.listed) in
    let I : Input kind header entries (lengths_of kind header entries) = input kind header entries refl (ap (λ (x : Lengths). x.formed) is) in
    let both-held : pieces I.held ≡ pieces held = sym I.listed ∙ ap (λ (x : Bool). entries_of x entries) G.is ∙ G.listed in
    let same-held : I.held ≡ held = cc both-held in
    let many : (lengths_of kind header entries).count ≡ length held = I.many ∙ ap length same-held in
    record {
      sizes = (lengths_of kind header entries).sizes;
      base = (lengths_of kind header entries).base;
      same = λ cells.
          ap₂ (λ (s : Bool) (h : List (List ℤ)). good_message s header h limit cells) (sym G.is) (sym same-held)
          ∙ sym (good_by_lem kind header entries I limit L.1 cells)
          ∙ ap₂ (λ (s : Bool) (n : ℕ). good_by s n (lengths_of kind header entries).sizes (lengths_of kind header entries).base limit cells) G.is many;
    }

-- ---- what the sizes say of a part of a message

summed_part : (sizes : List ℕ) (cells : List ℤ) (p i : ℕ) → At p (pos i) cells → get_or sizes i 0 ≤ summed sizes cells
unfolding summed
summed_part sizes [] p i s = absurd s
summed_part sizes (cell ∷ cells) zero i s = let is : i ≡ natural cell = ap natural s in omega (arith, ap (λ (k : ℕ). get_or sizes k 0) is)
summed_part sizes (cell ∷ cells) (suc p) i s = omega (arith, summed_part sizes cells p i s)

summed_joined : (sizes : List ℕ) (a b : List ℤ) → summed sizes (a ++ b) ≡ summed sizes a + summed sizes b
unfolding summed
summed_joined sizes [] b = omega arith
summed_joined sizes (cell ∷ a) b = omega (arith, summed_joined sizes a b)

summed_down : (sizes : List ℕ) (a n b m : ℕ) → a ≤ b → b + m ≤ a + n → summed sizes (numbers_from b m) ≤ summed sizes (numbers_from a n)
summed_down sizes a n b m low high =
    let first : numbers_from a (b - a) ++ numbers_from (a + (b - a)) (n - (b - a)) ≡ numbers_from a (b - a + (n - (b - a))) = numbers_joined a (b - a) (n - (b - a)) in
    let place : a + (b - a) ≡ b = omega arith in
    let whole : b - a + (n - (b - a)) ≡ n = omega arith in
    let second : numbers_from b m ++ numbers_from (b + m) (n - (b - a) - m) ≡ numbers_from b (m + (n - (b - a) - m)) = numbers_joined b m (n - (b - a) - m) in
    let rest : m + (n - (b - a) - m) ≡ n - (b - a) = omega arith in
    let one : summed sizes (numbers_from a n) ≡ summed sizes (numbers_from a (b - a)) + summed sizes (numbers_from b (n - (b - a))) =
    ap (λ (k : ℕ). summed sizes (numbers_from a k)) (sym whole) ∙ ap (summed sizes) (sym first) ∙ summed_joined sizes (numbers_from a (b - a)) (numbers_from (a + (b - a)) (n - (b - a)))
    ∙ ap (λ (k : ℕ). summed sizes (numbers_from a (b - a)) + summed sizes (numbers_from k (n - (b - a)))) place in
    let two : summed sizes (numbers_from b (n - (b - a))) ≡ summed sizes (numbers_from b m) + summed sizes (numbers_from (b + m) (n - (b - a) - m)) =
    ap (λ (k : ℕ). summed sizes (numbers_from b k)) (sym rest) ∙ ap (summed sizes) (sym second) ∙ summed_joined sizes (numbers_from b m) (numbers_from (b + m) (n - (b - a) - m)) in
    omega (arith, one, two)

module _ (signs : Bool) (count : ℕ) (sizes : List ℕ) (base limit : ℕ) where
  good_short : (cells : List ℤ) → good_by signs count sizes base limit cells ≡ true → (length cells ≤ most_in signs) × (octets_for (base + summed sizes cells) ≤ limit)
  unfolding good_by
  good_short cells e =
      let a = both (not (is_empty cells) && is_in_order count 0 cells && leb (length cells) (most_in signs)) (leb (octets_for (base + summed sizes cells)) limit) e in
      let b = both (not (is_empty cells) && is_in_order count 0 cells) (leb (length cells) (most_in signs)) a.0 in
      (leb-true (length cells) (most_in signs) b.1, leb-true (octets_for (base + summed sizes cells)) limit a.1)

  -- part of a good message of entries in order is one
  good_down : (a n b m : ℕ) → a ≤ b → b + m ≤ a + n → 1 ≤ m → a + n ≤ count → good_by signs count sizes base limit (numbers_from a n) ≡ true → good_by signs count sizes base limit (numbers_from b m) ≡ true
  good_down a n b m low high some there e =
      let S = good_short (numbers_from a n) e in
      let less = summed_down sizes a n b m low high in
      let long = numbers_long b m in
      sym (all_fit signs count sizes base limit (numbers_from b m) (λ z. omega (arith, z, long, some)) (omega (arith, long, S.0, numbers_long a n)) (numbers_in_order count 0 b m (omega arith) (omega arith)) refl
      {r = true} (sym (le-leb (octets_for (base + summed sizes (numbers_from b m))) limit (omega (arith, S.1, less)))))

-- ---- no plan at all

module _ (kind : ℕ) (header entries : List ℤ) (limit : ℕ) where
  pub none_at_all : {signs : Bool} {held : List (List ℤ)} → Given kind header entries signs held → Limit limit → (i : ℕ) → i < length held → TooLong signs header held limit i → (messages : List (List ℤ)) → ¬ (Good signs header held messages limit)
  none_at_all {signs} {held} G L i h over messages P =
      let B = by_sizes kind header entries limit G L in
      let O = P.once i h in
      let cells = O.2.0 in
      let fits : good_by signs (length held) B.sizes B.base limit cells ≡ true = sym (B.same cells) ∙ fits_good signs header held limit cells (P.fit O.0 cells O.2.1) in
      let short = good_short signs (length held) B.sizes B.base limit cells fits in
      let part = summed_part B.sizes cells O.1 i O.2.2 in
      fits_alone signs header held limit i h
      (B.same (numbers_from i 1) ∙ alone signs (length held) B.sizes B.base limit i h ∙ le-leb (octets_for (B.base + get_or B.sizes i 0)) limit (omega (arith, short.1, part))) over

-- ---- the fewest messages

-- the front of entries in order, and the rest
record Cut (c rest : List ℤ) (b n : ℕ) : Type 0 where
  few : length c ≤ n
  front : c ≡ numbers_from b (length c)
  behind : rest ≡ numbers_from (b + length c) (n - length c)

cut : (c rest : List ℤ) (b n : ℕ) → c ++ rest ≡ numbers_from b n → Cut c rest b n
unfolding numbers_from
cut [] rest b n e = let z : b ≡ b + 0 = omega arith in let y : n ≡ n - 0 = omega arith in record { few = omega arith; front = refl; behind = e ∙ ap₂ numbers_from z y }
cut (x ∷ c) rest b zero e = absurd (let z : suc (length (c ++ rest)) ≡ 0 = ap length e in omega arith)
cut (x ∷ c) rest b (suc n) e =
    let first : x ≡ pos b = cc e in
    let others : c ++ rest ≡ numbers_from (suc b) n = cc e in
    let C = cut c rest (suc b) n others in
    let z : suc b + length c ≡ b + suc (length c) = omega arith in
    let y : n - length c ≡ suc n - suc (length c) = omega arith in
    record { few = omega (arith, C.few); front = ap₂ (λ (u : ℤ) (l : List ℤ). u ∷ l) first C.front; behind = C.behind ∙ ap₂ numbers_from z y }

module _ (good : List ℤ → Bool) (count : ℕ) (each : Alone good count)
    (down : (a n b m : ℕ) → a ≤ b → b + m ≤ a + n → 1 ≤ m → a + n ≤ count → good (numbers_from a n) ≡ true → good (numbers_from b m) ≡ true) where
  reaches : (from held left far : ℕ) → far ≤ held + left → ((j : ℕ) → held < j → j ≤ far → good (numbers_from from j) ≡ true) → far ≤ most_from good from held left
  unfolding most_from
  reaches from held zero far h all = omega arith
  reaches from held (suc left) far h all = go (dec_lt held far) (reaches from (suc held) left far (omega arith) (λ j a b. all j (omega arith) b))
    where
      go : Dec (held < far) → far ≤ most_from good from (suc held) left → far ≤ most_from good from held (suc left)
      go (yes l) later = rw (all (suc held) (omega arith) (omega arith)) later
      go (no l) later = omega (arith, (most_bounds good from held (suc left)).0)

  nothing_left : (from n : ℕ) → n ≡ 0 → length (packed good from 0 n) ≡ 0
  unfolding packed
  nothing_left from n z = ap (λ (k : ℕ). length (packed good from 0 k)) z

  -- others begin at b, which the planner has passed: it needs no more messages than they
  ahead : (others : List (List ℤ)) (b from n : ℕ) → b ≤ from → from + n ≤ count → joined others ≡ numbers_from b (from + n - b) → ((m : ℕ) (cells : List ℤ) → At m cells others → good cells ≡ true) → length (packed good from 0 n) ≤ length others
  unfolding joined
  ahead [] b from n low there e fit = let z : 0 ≡ from + n - b = ap length e ∙ numbers_long b (from + n - b) in omega (arith, nothing_left from n (omega arith))
  ahead (c ∷ more) b from n low there e fit = go (dec_lt 0 n) (dec_le (b + length c) from) (λ b' from' n' l t f. ahead more b' from' n' l t f (λ m cells s. fit (suc m) cells s))
    where
      C : Cut c (joined more) b (from + n - b)
      C = cut c (joined more) b (from + n - b) e

      own : good (numbers_from b (length c)) ≡ true
      own = ap good (sym C.front) ∙ fit 0 c refl

      go : Dec (0 < n) → Dec (b + length c ≤ from)
          → ((b' from' n' : ℕ) → b' ≤ from' → from' + n' ≤ count → joined more ≡ numbers_from b' (from' + n' - b') → length (packed good from' 0 n') ≤ length more) → length (packed good from 0 n) ≤ suc (length more)
      go (no l) d later = omega (arith, nothing_left from n (omega arith))
      go (yes l) (yes h) later =
          let z : from + n - b - length c ≡ from + n - (b + length c) = omega arith in
          omega (arith, later (b + length c) from n h there (C.behind ∙ ap (numbers_from (b + length c)) z))
      go (yes l) (no h) later =
          let far : b + length c - from ≤ most_from good from 0 n = reaches from 0 n (b + length c - from) (omega (arith, C.few)) (λ j a z. down b (length c) from j low (omega (arith, z)) (omega arith) (omega (arith, C.few)) own) in
          let most = (most_bounds good from 0 n).1 in
          let split = packed_split good from count 0 n (omega arith) each (omega arith) in
          let y : 0 + n - most_from good from 0 n ≡ n - most_from good from 0 n = omega arith in
          let many : length (packed good from 0 n) ≡ suc (length (packed good (from + most_from good from 0 n) 0 (n - most_from good from 0 n))) =
          ap length split ∙ ap (λ (k : ℕ). suc (length (packed good (from + most_from good from 0 n) 0 k))) y in
          let z : from + n - b - length c ≡ from + most_from good from 0 n + (n - most_from good from 0 n) - (b + length c) = omega (arith, most) in
          omega (arith, many, later (b + length c) (from + most_from good from 0 n) (n - most_from good from 0 n) (omega (arith, far)) (omega (arith, most)) (C.behind ∙ ap (numbers_from (b + length c)) z))

module _ (kind : ℕ) (header entries : List ℤ) (limit : ℕ) where
  pub fewest : {signs : Bool} {held : List (List ℤ)} → Given kind header entries signs held → Limit limit → {messages : List (List ℤ)} → planned kind header entries limit ≡ made messages
      → (others : List (List ℤ)) → Good signs header held others limit → joined others ≡ numbers_from 0 (length held) → length messages ≤ length others
  fewest {signs} {held} G L {messages} e others P order =
      let right = good_message signs header held limit in
      let B = by_sizes kind header entries limit G L in
      let each : Alone right (length held) = λ i h. go i h (dec_le (message_octets signs header (get_or held i [] ∷ [])) limit) in
      let down : (a n b m : ℕ) → a ≤ b → b + m ≤ a + n → 1 ≤ m → a + n ≤ length held → right (numbers_from a n) ≡ true → right (numbers_from b m) ≡ true =
      λ a n b m low high some there t. B.same (numbers_from b m) ∙ good_down signs (length held) B.sizes B.base limit a n b m low high some there (sym (B.same (numbers_from a n)) ∙ t) in
      let z : length held ≡ 0 + length held - 0 = omega arith in
      let is : made messages ≡ made (packed right 0 0 (length held)) = sym e ∙ makes_packed kind header entries limit G L each in
      let same : messages ≡ packed right 0 0 (length held) = cc is in
      omega (arith, ap length same, ahead right (length held) each down others 0 0 (length held) (omega arith) (omega arith) (order ∙ ap (numbers_from 0) z) (λ m cells s. fits_good signs header held limit cells (P.fit m cells s)))
    where
      go : (i : ℕ) → i < length held → Dec (message_octets signs header (get_or held i [] ∷ []) ≤ limit) → good_message signs header held limit (numbers_from i 1) ≡ true
      go i h (yes l) = alone_fits signs header held limit i h l
      go i h (no l) = absurd (none_at_all kind header entries limit G L i h (omega arith) others P)
