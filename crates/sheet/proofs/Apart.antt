-- A value that stands in a sheet, taken apart: where its components, its alternative and its items stand.
-- Assumes nothing.
use Prim.Native.Nat.{ℕ, zero, suc, ◌+◌, ◌<◌, ◌≤◌}
use native.Mathlib.Omega.{arith}
use borrow.Author.Tests.{ne_eqb}
use mathlib.Core.Path.{◌≡◌, refl, sym, ap, ap₂, ◌∙◌}
use mathlib.Core.List.{List, ◌∷◌}
use lib.IntN.{ℤ, pos}
use lib.ListN.{length}
use Rattle.types.specs.Shape.{Ty, Fields, Alts, Field, field, last}
use Rattle.types.specs.Shape.Ty.{seq, choice, list, ext}
use Rattle.types.specs.Shape.Fields.{none, must, may}
use Rattle.basics.specs.Lists.{cell_at}
use Rattle.meaning.specs.Values.{Value, sequence, chosen, items, Parts, absent, there, Values, item}
use Rattle.meaning.specs.Steps.{pure, ◌>>=◌}
use Rattle.meaning.specs.Steps.Got.{ok}
use Rattle.meaning.specs.Walk.{flags, times, walk, fields, alternative}
use Rattle.meaning.specs.Writing.{write_whole, write_extension, writer, write}
use Rattle.meaning.proofs.Steps.{Came, came, bound}
use Rattle.meaning.proofs.Sides.{WriteWhole, write_whole_lem}
use Rattle.walking.specs.Walked.{flags_from, sized}
use Rattle.walking.proofs.Rows.{flags_seen, walk_listed}
use Rattle.passing.proofs.Cells.{flag_seen}

-- how many components are OPTIONAL
unfoldable pub optionals : Fields → ℕ
optionals none = 0
optionals (must t fs) = optionals fs
optionals (may t fs) = suc (optionals fs)

module _ (cells : List ℤ) where
  pub ext_apart : (t : Ty) (p : ℕ) {v : Value} {out : List ℕ} {q : ℕ} → write (ext t) cells p ≡ ok v out q → (more : List ℕ) × (write t cells p ≡ ok v more q)
  unfolding walk write_extension
  ext_apart t p {v} {out} {q} e =
      let C : Came (write_extension cells p) (λ x. write t cells) q v out = bound write_extension (λ x. write t) cells p e in
      let same : p ≡ C.then = cc C.at_first in
      (C.more, ap (write t cells) same ∙ C.at_more)

  pub record Chosen (alts : Alts) (p : ℕ) (v : Value) (q : ℕ) : Type 0 where
    pub index : ℕ
    pub inner : Value
    pub bits : List ℕ
    pub told : List ℕ
    pub picked : write_whole (field (pos 0) (last alts)) cells p ≡ ok index told (p + 1)
    pub within : index ≤ last alts
    pub enough : p < length cells
    pub is : v ≡ chosen index inner
    pub stands : alternative alts index writer cells (p + 1) ≡ ok inner bits q

  pub choice_apart : (row : ℕ) (alts : Alts) (p : ℕ) {v : Value} {out : List ℕ} {q : ℕ} → write (choice row alts) cells p ≡ ok v out q → Chosen alts p v q
  unfolding walk pure write_whole
  choice_apart row alts p {v} {out} {q} e =
      let C : Came (write_whole (field (pos 0) (last alts)) cells p) (λ n. (alternative alts n writer >>= (λ w. pure (chosen n w))) cells) q v out = bound (write_whole (field (pos 0) (last alts))) (λ n. alternative alts n writer >>= (λ w. pure (chosen n w))) cells p e in
      let W : WriteWhole cells (field (pos 0) (last alts)) p C.then C.told C.first = write_whole_lem cells (field (pos 0) (last alts)) p C.at_first in
      let D : Came (alternative alts C.told writer cells C.then) (λ w. pure (chosen C.told w) cells) q v C.more = bound (alternative alts C.told writer) (λ w. pure (chosen C.told w)) cells C.then C.at_more in
      let last-place : D.then ≡ q = cc D.at_more in
      let value : chosen C.told D.told ≡ v = cc D.at_more in
      record {
        index = C.told;
        inner = D.told;
        bits = D.first;
        told = C.first;
        picked = C.at_first ∙ ap (ok C.told C.first) (sym W.next);
        within = W.within;
        enough = W.enough;
        is = sym value;
        stands = ap (alternative alts C.told writer cells) W.next ∙ D.at_first ∙ ap (ok D.told D.first) last-place;
      }

  -- the components start behind the presence cells, inside the sheet
  flags_next : (fs : Fields) (i j : ℕ) (ns : List ℕ) (out : List ℕ) → flags fs writer cells i ≡ ok ns out j → (j ≡ i + optionals fs) × (i ≤ length cells → j ≤ length cells)
  unfolding flags pure optionals
  flags_next none i j ns out e = let p : i ≡ j = cc in (omega arith, λ h. omega arith)
  flags_next (must t fs) i j ns out e = flags_next fs i j ns out e
  flags_next (may t fs) i j ns out e =
      let C : Came (write_whole (field (pos 0) 1) cells i) (λ n. (flags fs writer >>= (λ more. pure (n ∷ more))) cells) j ns out = bound (write_whole (field (pos 0) 1)) (λ n. flags fs writer >>= (λ more. pure (n ∷ more))) cells i e in
      let D : Came (flags fs writer cells C.then) (λ more. pure (C.told ∷ more) cells) j ns C.more = bound (flags fs writer) (λ more. pure (C.told ∷ more)) cells C.then C.at_more in
      let first = flag_seen cells i C.told C.then C.first C.at_first in
      let rest = flags_next fs C.then D.then D.told D.first D.at_first in
      let end : D.then ≡ j = cc D.at_more in
      let W : WriteWhole cells (field (pos 0) 1) i C.then C.told C.first = write_whole_lem cells (field (pos 0) 1) i C.at_first in
      (omega (arith, first.1, rest.0), λ h. omega (arith, rest.1 (omega (arith, W.enough, W.next))))

  pub record Sequence (fs : Fields) (p : ℕ) (v : Value) (q : ℕ) : Type 0 where
    pub parts : Parts
    pub bits : List ℕ
    pub is : v ≡ sequence parts
    pub flags_told : List ℕ
    pub flags_bits : List ℕ
    pub flagged : flags fs writer cells p ≡ ok flags_told flags_bits (p + optionals fs)
    pub inside : p ≤ length cells → p + optionals fs ≤ length cells
    pub stands : fields fs (flags_from fs (cell_at cells) p) writer cells (p + optionals fs) ≡ ok parts bits q

  pub seq_apart : (fs : Fields) (p : ℕ) {v : Value} {out : List ℕ} {q : ℕ} → write (seq fs) cells p ≡ ok v out q → Sequence fs p v q
  unfolding walk pure
  seq_apart fs p {v} {out} {q} e =
      let C : Came (flags fs writer cells p) (λ ns. (fields fs ns writer >>= (λ parts. pure (sequence parts))) cells) q v out = bound (flags fs writer) (λ ns. fields fs ns writer >>= (λ parts. pure (sequence parts))) cells p e in
      let D : Came (fields fs C.told writer cells C.then) (λ parts. pure (sequence parts) cells) q v C.more = bound (fields fs C.told writer) (λ parts. pure (sequence parts)) cells C.then C.at_more in
      let last-place : D.then ≡ q = cc D.at_more in
      let value : sequence D.told ≡ v = cc D.at_more in
      let flags-are : C.told ≡ flags_from fs (cell_at cells) p = flags_seen writer cells (cell_at cells) (flag_seen cells) fs p C.then C.told C.first C.at_first in
      let next = flags_next fs p C.then C.told C.first C.at_first in
      let start : C.then ≡ p + optionals fs = next.0 in
      record {
        parts = D.told;
        bits = D.first;
        is = sym value;
        flags_told = C.told;
        flags_bits = C.first;
        flagged = C.at_first ∙ ap (ok C.told C.first) start;
        inside = λ h. omega (arith, next.1 h);
        stands = ap₂ (λ (ns : List ℕ) (i : ℕ). fields fs ns writer cells i) (sym flags-are) (sym start) ∙ D.at_first ∙ ap (ok D.told D.first) last-place;
      }

  -- a component that is there, and those behind it
  pub record There (t : Ty) (fs : Fields) (ns : List ℕ) (p : ℕ) (parts : Parts) (q : ℕ) : Type 0 where
    pub value : Value
    pub rest : Parts
    pub next : ℕ
    pub bits : List ℕ
    pub more : List ℕ
    pub is : parts ≡ there value rest
    pub stands : write t cells p ≡ ok value bits next
    pub behind : fields fs ns writer cells next ≡ ok rest more q

  there_by : (t : Ty) (fs : Fields) (ns : List ℕ) (p : ℕ) {parts : Parts} {out : List ℕ} {q : ℕ} → (write t >>= (λ v. fields fs ns writer >>= (λ more. pure (there v more)))) cells p ≡ ok parts out q → There t fs ns p parts q
  unfolding pure
  there_by t fs ns p {parts} {out} {q} e =
      let C : Came (write t cells p) (λ v. (fields fs ns writer >>= (λ more. pure (there v more))) cells) q parts out = bound (write t) (λ v. fields fs ns writer >>= (λ more. pure (there v more))) cells p e in
      let D : Came (fields fs ns writer cells C.then) (λ more. pure (there C.told more) cells) q parts C.more = bound (fields fs ns writer) (λ more. pure (there C.told more)) cells C.then C.at_more in
      let last-place : D.then ≡ q = cc D.at_more in
      let value : there C.told D.told ≡ parts = cc D.at_more in
      record { value = C.told; rest = D.told; next = C.then; bits = C.first; more = D.first; is = sym value; stands = C.at_first; behind = D.at_first ∙ ap (ok D.told D.first) last-place }

  pub must_apart : (t : Ty) (fs : Fields) (ns : List ℕ) (p : ℕ) {parts : Parts} {out : List ℕ} {q : ℕ} → fields (must t fs) ns writer cells p ≡ ok parts out q → There t fs ns p parts q
  unfolding fields
  must_apart t fs ns p e = there_by t fs ns p e

  pub may_apart : (t : Ty) (fs : Fields) (n : ℕ) (ns : List ℕ) (p : ℕ) {parts : Parts} {out : List ℕ} {q : ℕ} → (n ≡ 0 → ⊥) → fields (may t fs) (n ∷ ns) writer cells p ≡ ok parts out q → There t fs ns p parts q
  unfolding fields
  may_apart t fs zero ns p h e = absurd (h refl)
  may_apart t fs (suc n) ns p h e = there_by t fs ns p e

  -- a component that is not there, and those behind it
  pub record Absent (fs : Fields) (ns : List ℕ) (p : ℕ) (parts : Parts) (q : ℕ) : Type 0 where
    pub rest : Parts
    pub more : List ℕ
    pub is : parts ≡ absent rest
    pub behind : fields fs ns writer cells p ≡ ok rest more q

  pub absent_apart : (t : Ty) (fs : Fields) (n : ℕ) (ns : List ℕ) (p : ℕ) {parts : Parts} {out : List ℕ} {q : ℕ} → n ≡ 0 → fields (may t fs) (n ∷ ns) writer cells p ≡ ok parts out q → Absent fs ns p parts q
  unfolding fields pure
  absent_apart t fs (suc n) ns p h e = absurd (omega arith)
  absent_apart t fs zero ns p {parts} {out} {q} h e =
      let D : Came (fields fs ns writer cells p) (λ more. pure (absent more) cells) q parts out = bound (fields fs ns writer) (λ more. pure (absent more)) cells p e in
      let last-place : D.then ≡ q = cc D.at_more in
      let value : absent D.told ≡ parts = cc D.at_more in
      record { rest = D.told; more = D.first; is = sym value; behind = D.at_first ∙ ap (ok D.told D.first) last-place }

  -- the size of a list, which is coded or fixed, and its items
  pub record Listed (least span : ℕ) (t : Ty) (p : ℕ) (v : Value) (q : ℕ) : Type 0 where
    pub more : ℕ
    pub told : List ℕ
    pub start : ℕ
    pub values : Values
    pub bits : List ℕ
    pub size : sized span (write_whole (field (pos least) span) cells) p ≡ ok more told start
    pub inside : p ≤ length cells → start ≤ length cells
    pub is : v ≡ items values
    pub stands : times (least + more) (write t) cells start ≡ ok values bits q

  size_inside : (f : Field) (span p : ℕ) {more : ℕ} {told : List ℕ} {start : ℕ} → sized span (write_whole f cells) p ≡ ok more told start → p ≤ length cells → start ≤ length cells
  unfolding sized
  size_inside f zero p {start = start} e h = let z : p ≡ start = cc in omega arith
  size_inside f (suc n) p e h = let W = write_whole_lem cells f p (rw (ne_eqb (suc n) 0 (λ z. omega arith)) at e) in omega (arith, W.enough, W.next)

  pub list_apart : (row least span : ℕ) (t : Ty) (p : ℕ) {v : Value} {out : List ℕ} {q : ℕ} → write (list row least span t) cells p ≡ ok v out q → Listed least span t p v q
  unfolding pure ◌>>=◌ write_whole
  list_apart row least span t p {v} {out} {q} e =
      let C : Came (sized span (write_whole (field (pos least) span) cells) p) (λ n. (times (least + n) (write t) >>= (λ vs. pure (items vs))) cells) q v out = came (sym (walk_listed writer cells row least span t p) ∙ e) in
      let D : Came (times (least + C.told) (write t) cells C.then) (λ vs. pure (items vs) cells) q v C.more = bound (times (least + C.told) (write t)) (λ vs. pure (items vs)) cells C.then C.at_more in
      let last-place : D.then ≡ q = cc D.at_more in
      let value : items D.told ≡ v = cc D.at_more in
      record {
        more = C.told;
        told = C.first;
        start = C.then;
        values = D.told;
        bits = D.first;
        size = C.at_first;
        inside = size_inside (field (pos least) span) span p C.at_first;
        is = sym value;
        stands = D.at_first ∙ ap (ok D.told D.first) last-place;
      }

  -- one item, and those behind it
  pub record Item (t : Ty) (n p : ℕ) (vs : Values) (q : ℕ) : Type 0 where
    pub value : Value
    pub rest : Values
    pub next : ℕ
    pub bits : List ℕ
    pub more : List ℕ
    pub is : vs ≡ item value rest
    pub stands : write t cells p ≡ ok value bits next
    pub behind : times n (write t) cells next ≡ ok rest more q

  pub item_apart : (t : Ty) (n p : ℕ) {vs : Values} {out : List ℕ} {q : ℕ} → times (suc n) (write t) cells p ≡ ok vs out q → Item t n p vs q
  unfolding times pure
  item_apart t n p {vs} {out} {q} e =
      let C : Came (write t cells p) (λ v. (times n (write t) >>= (λ more. pure (item v more))) cells) q vs out = bound (write t) (λ v. times n (write t) >>= (λ more. pure (item v more))) cells p e in
      let D : Came (times n (write t) cells C.then) (λ more. pure (item C.told more) cells) q vs C.more = bound (times n (write t)) (λ more. pure (item C.told more)) cells C.then C.at_more in
      let last-place : D.then ≡ q = cc D.at_more in
      let value : item C.told D.told ≡ vs = cc D.at_more in
      record { value = C.told; rest = D.told; next = C.then; bits = C.first; more = D.first; is = sym value; stands = C.at_first; behind = D.at_first ∙ ap (ok D.told D.first) last-place }
