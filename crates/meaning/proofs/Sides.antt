-- When the steps of `reader` and `writer` answer `ok`, and what they answer then.
-- Assumes nothing.
use Prim.Native.Nat.{ℕ, zero, suc, ◌+◌, ◌-◌, ◌*◌, ◌≤◌, ◌<◌, ◌^◌, max}
use mathlib.Core.Path.{◌≡◌, refl, sym, ap, ap₂, ◌∙◌}
use mathlib.Core.List.{List, [], ◌∷◌, ◌++◌, append_assoc}
use native.Mathlib.Nat.{add-zero}
use native.Mathlib.Omega.{arith}
use borrow.Author.Tests.{eq-eqb}
use lib.Dec.{T, eqb, eqb→eq}
use lib.ListN.{length, take, drop, get_or, length-append, length-take, length-drop}
use lib.Seq.{slice, slice_empty, take_at, drop-append_seam}
use lib.IntN.{ℤ, pos, negsuc, ◌+ℤ◌, ◌-ℤ◌}
use Rattle.bits.specs.Numbers.{val, to_bits, Binary, width}
use Rattle.answers.specs.Refusals.{naming, short_by}
use Rattle.bits.specs.Fetching.{field_bits, code}
use Rattle.bits.proofs.Numbers.{binary_take, binary_drop, val_lt, to_bits_length, to_bits_val, val_to_bits_lt}
use Rattle.bits.proofs.Fetching.{field_length, field_left}
use Rattle.types.specs.Shape.{Field}
use Rattle.meaning.specs.Values.{Value}
use Rattle.meaning.specs.Steps.{Got, ok, refused, Step, and_then}
use Rattle.meaning.specs.Coded.{Tree, found, wrong, ask, Coded, tree, holds, coded, an_extent}
use Rattle.meaning.specs.Reading.{Around, free, inside, Source, source, within, part, judged, read_whole, unextended, read_extension, follow, octets_of, narrowed, clean, closed, read_opened}
use Rattle.meaning.specs.Writing.{write_whole, write_above, write_held, write_number, enclosed, write_closed, write_opened}
use Rattle.meaning.proofs.Steps.{ok_is_not_refused, passed, pass, passed_le, pass_le, fail_le, Came, came, then_ok, then_refused, then_fails, slice_append, slice_part}
use Rattle.meaning.proofs.Forms.{Leads}

-- ---- bits that are read

-- a field that ends at this place ends in the open values around it
abbrev pub Clear : Around → ℕ → Type 0
Clear free end = Unit {0}
Clear (inside last place) end = end ≤ last

pub clear_less : (a : Around) (m n : ℕ) → m ≤ n → Clear a n → Clear a m
clear_less free m n h c = tt
clear_less (inside last place) m n h c = omega arith

pub within_clear : {X : Type 0} (a : Around) (end : ℕ) (g : Got ℤ X) → Clear a end → within a end g ≡ g
unfolding within
within_clear free end g c = refl
within_clear (inside last place) end g c = pass_le end last g _ c

within_was : {X : Type 0} (a : Around) (end : ℕ) {g : Got ℤ X} {x : X} {out : List ℤ} {j : ℕ} → within a end g ≡ ok x out j → Clear a end × (g ≡ ok x out j)
unfolding within
within_was free end e = (tt, e)
within_was (inside last place) end e = passed_le end last _ e

pub record Part (bs : List ℕ) (a : Around) (w i j n : ℕ) (out : List ℤ) : Type 0 where
  pub enough : w ≤ length bs - i
  pub clear : Clear a (i + w)
  pub is : code bs i w ≡ n
  pub puts : [] ≡ out
  pub next : i + w ≡ j

module _ (first w : ℕ) (bs : List ℕ) (a : Around) (i : ℕ) where
  pub part_read : Clear a (i + w) → w ≤ length bs - i → part first w (source bs a) i ≡ ok (code bs i w) [] (i + w)
  unfolding part
  part_read c h =
      let l : w ≤ length (field_bits bs i w) = simp (length-take, length-drop) (omega arith) in
      within_clear a (i + w) _ c ∙ pass_le w (length (field_bits bs i w)) _ _ l

  pub part_short : Clear a (i + w) → length bs - i < w → part first w (source bs a) i ≡ refused (short_by (w - (length bs - i)) first)
  unfolding part
  part_short c h =
      let there = field_left bs i w h in
      within_clear a (i + w) _ c ∙ fail_le w (length (field_bits bs i w)) _ _ (omega (arith, there)) ∙ ap (λ (n : ℕ). refused (short_by (w - n) first)) there

  pub part_was : {j n : ℕ} {out : List ℤ} → part first w (source bs a) i ≡ ok n out j → Part bs a w i j n out
  unfolding part
  part_was {j} {n} {out} e =
      let (c, e₁) = within_was a (i + w) e in
      let (h, e₂) = passed_le w (length (field_bits bs i w)) _ e₁ in
      let l : w ≤ length bs - i = omega (arith, length-take w (drop i bs), length-drop i bs) in
      record { enough = l; clear = c; is = cc; puts = cc; next = cc }

-- the bits of a part, in the whole and as a number's
part_bits : (bs : List ℕ) → Binary bs → (i w : ℕ) → w ≤ length bs - i → to_bits w (code bs i w) ≡ slice i (i + w) bs
part_bits bs h i w l =
    rw (slice_part i w bs) (rw (field_length bs i w l) at (to_bits_val (field_bits bs i w) (binary_take w (drop i bs) (binary_drop i bs h))))

part_lt : (bs : List ℕ) → Binary bs → (i w : ℕ) → w ≤ length bs - i → code bs i w < 2 ^ w
part_lt bs h i w l = rw (field_length bs i w l) at (val_lt (field_bits bs i w) (binary_take w (drop i bs) (binary_drop i bs h)))

-- what stands in the middle
pub middle : {A : Type 0} (pre out post : List A) (w : ℕ) → length out ≡ w → take w (drop (length pre) (pre ++ out ++ post)) ≡ out
middle pre out post w h = rw (append_assoc, drop-append_seam) (take_at out post w h)

-- ---- a whole number that is read

pub record ReadWhole (bs : List ℕ) (f : Field) (i j n : ℕ) (out : List ℤ) : Type 0 where
  pub enough : width f.span ≤ length bs - i
  pub within : n ≤ f.span
  pub is : code bs i (width f.span) ≡ n
  pub puts : (f.lowest +ℤ pos n) ∷ [] ≡ out
  pub next : i + width f.span ≡ j

module _ (bs : List ℕ) (a : Around) (f : Field) (i : ℕ) where
  pub whole_read : (n : ℕ) → Clear a (i + width f.span) → width f.span ≤ length bs - i → code bs i (width f.span) ≡ n → n ≤ f.span → read_whole f (source bs a) i ≡ ok n ((f.lowest +ℤ pos n) ∷ []) (i + width f.span)
  unfolding read_whole judged
  whole_read n c h p q = then_ok (judged f i) (part_read i (width f.span) bs a i c h) (rw p (pass_le n f.span _ _ q))

  pub whole_short : Clear a (i + width f.span) → length bs - i < width f.span → read_whole f (source bs a) i ≡ refused (short_by (width f.span - (length bs - i)) i)
  unfolding read_whole
  whole_short c h = then_refused (judged f i) (part_short i (width f.span) bs a i c h)

  pub whole_outside : Clear a (i + width f.span) → width f.span ≤ length bs - i → f.span < code bs i (width f.span) → read_whole f (source bs a) i ≡ refused (naming f.outside f.row i)
  unfolding read_whole judged
  whole_outside c h q = then_fails (judged f i) (part_read i (width f.span) bs a i c h) (fail_le (code bs i (width f.span)) f.span _ _ q)

  pub read_whole_lem : {j n : ℕ} {out : List ℤ} → read_whole f (source bs a) i ≡ ok n out j → ReadWhole bs f i j n out
  unfolding read_whole judged
  read_whole_lem {j} {n} {out} e =
      let m : Came (part i (width f.span) (source bs a) i) (judged f i) j n out = came e in
      let p = part_was i (width f.span) bs a i m.at_first in
      let (u, e₁) = passed_le m.told f.span _ m.at_more in
      let t : m.told ≡ n = cc in
      record { enough = p.enough; within = omega arith; is = p.is ∙ t; puts = cc; next = cc }

-- ---- an extension bit that gives no cell

pub record ReadExtension (bs : List ℕ) (i j : ℕ) (out : List ℤ) : Type 0 where
  pub enough : 1 ≤ length bs - i
  pub is : code bs i 1 ≡ 0
  pub puts : [] ≡ out
  pub next : i + 1 ≡ j

module _ (bs : List ℕ) (a : Around) (i : ℕ) where
  pub extension_read : Clear a (i + 1) → 1 ≤ length bs - i → code bs i 1 ≡ 0 → read_extension (source bs a) i ≡ ok tt [] (i + 1)
  unfolding read_extension unextended
  extension_read c h p = then_ok (unextended i) (part_read i 1 bs a i c h) (rw p refl)

  pub extension_short : Clear a (i + 1) → length bs - i < 1 → read_extension (source bs a) i ≡ refused (short_by (1 - (length bs - i)) i)
  unfolding read_extension
  extension_short c h = then_refused (unextended i) (part_short i 1 bs a i c h)

  pub read_extension_lem : {j : ℕ} {x : Unit {0}} {out : List ℤ} → read_extension (source bs a) i ≡ ok x out j → ReadExtension bs i j out
  unfolding read_extension unextended
  read_extension_lem {j} {x} {out} e =
      let m : Came (part i 1 (source bs a) i) (unextended i) j x out = came e in
      let p = part_was i 1 bs a i m.at_first in
      go m p m.told refl m.at_more
    where
      go : (m : Came (part i 1 (source bs a) i) (unextended i) j x out) → Part bs a 1 i m.then m.told m.first → (n : ℕ) → m.told ≡ n → unextended i n m.then ≡ ok x m.more j → ReadExtension bs i j out
      go m p zero t q = record { enough = p.enough; is = p.is ∙ t; puts = cc; next = cc }
      go m p (suc n) t q = absurd (ok_is_not_refused q)

-- ---- a number by its tree

pub record Followed (tr : Tree) (bs : List ℕ) (i j n : ℕ) (out : List ℤ) : Type 0 where
  pub onward : i ≤ j
  pub within : j ≤ max i (length bs)
  pub puts : [] ≡ out
  pub leads : Binary bs → Leads tr (slice i j bs) n

pub followed : (tr : Tree) (first : ℕ) (bs : List ℕ) (a : Around) (i j n : ℕ) (out : List ℤ) → follow tr first (source bs a) i ≡ ok n out j → Followed tr bs i j n out
unfolding follow
followed (found m) first bs a i j n out e =
    let p : i ≡ j = cc in
    record { onward = omega arith; within = omega arith; puts = cc; leads = λ h. (rw (← p) (slice_empty i bs), cc) }
followed wrong first bs a i j n out e = absurd (ok_is_not_refused e)
followed (ask w k) first bs a i j n out e =
    let m : Came (part first w (source bs a) i) (λ b. follow (k b) first (source bs a)) j n out = came e in
    let p = part_was first w bs a i m.at_first in
    let r = followed (k m.told) first bs a m.then j n m.more m.at_more in
    let s : slice i j bs ≡ slice i (i + w) bs ++ slice m.then j bs = rw p.next (sym (slice_append i m.then j bs (omega arith) r.onward)) in
    record {
      onward = omega arith;
      within = omega arith;
      puts = ap₂ (λ (x y : List ℤ). x ++ y) p.puts r.puts ∙ m.both;
      leads = λ h. (
        m.told,
        slice m.then j bs,
        rw p.is at (part_lt bs h i w p.enough),
        s ∙ ap (λ (l : List ℕ). l ++ slice m.then j bs) (sym (rw p.is at (part_bits bs h i w p.enough))),
        r.leads h,
      );
    }

pub following : (tr : Tree) (first : ℕ) (a : Around) (word : List ℕ) (n : ℕ) → Leads tr word n → (pre post : List ℕ) → Clear a (length pre + length word) → follow tr first (source (pre ++ word ++ post) a) (length pre) ≡ ok n [] (length pre + length word)
unfolding follow
following (found m) first a word n (e, p) pre post c = rw (e, p, add-zero) refl
following wrong first a word n l pre post c = absurd l
following (ask w k) first a word n (b, rest, small, split, on) pre post c =
    let bits : List ℕ = to_bits w b in
    let wide : length bits ≡ w = to_bits_length w b in
    let all : List ℕ = pre ++ word ++ post in
    let one : pre ++ word ++ post ≡ pre ++ bits ++ (rest ++ post) = rw (split) (simp append_assoc) in
    let two : pre ++ word ++ post ≡ (pre ++ bits) ++ rest ++ post = rw (split) (simp append_assoc) in
    let n₁ : length word ≡ w + length rest = rw (split) (simp length-append (omega arith)) in
    let n₂ : length (pre ++ bits) ≡ length pre + w = simp length-append (omega arith) in
    let is : code all (length pre) w ≡ b = ap (λ (l : List ℕ). code l (length pre) w) one ∙ ap val (middle pre bits (rest ++ post) w wide) ∙ val_to_bits_lt w b small in
    let there : w ≤ length all - length pre = rw (one) (simp length-append (omega arith)) in
    let p : part first w (source all a) (length pre) ≡ ok b [] (length (pre ++ bits)) = part_read first w all a (length pre) (clear_less a (length pre + w) (length pre + length word) (omega arith) c) there ∙ ap₂ (λ (x y : ℕ). ok x [] y) is (sym n₂) in
    let q : follow (k b) first (source all a) (length (pre ++ bits)) ≡ ok n [] (length pre + length word) =
    ap (λ (l : List ℕ). follow (k b) first (source l a) (length (pre ++ bits))) two
    ∙ following (k b) first a rest n on (pre ++ bits) post (clear_less a (length (pre ++ bits) + length rest) (length pre + length word) (omega arith) c)
    ∙ ap (λ (x : ℕ). ok n [] x) (omega arith)
    in
    then_ok (λ m. follow (k m) first (source all a)) p q

-- ---- a whole number and a number of the extension parts that are written

pub record WriteWhole (cells : List ℤ) (f : Field) (i j n : ℕ) (out : List ℕ) : Type 0 where
  pub enough : i < length cells
  pub within : n ≤ f.span
  pub is : get_or cells i (pos 0) -ℤ f.lowest ≡ pos n
  pub puts : to_bits (width f.span) n ≡ out
  pub next : i + 1 ≡ j

pub write_whole_lem : (cells : List ℤ) (f : Field) (i : ℕ) {j n : ℕ} {out : List ℕ} → write_whole f cells i ≡ ok n out j → WriteWhole cells f i j n out
unfolding write_whole write_above
write_whole_lem cells f i {j} {n} {out} e =
    let (h, e₁) = passed_le (suc i) (length cells) _ e in
    go (get_or cells i (pos 0) -ℤ f.lowest) refl h e₁
  where
    go : (z : ℤ) → get_or cells i (pos 0) -ℤ f.lowest ≡ z → i < length cells → write_above f.span z i ≡ ok n out j → WriteWhole cells f i j n out
    go (pos m) p h e₁ =
        let (u, e₂) = passed_le m f.span _ e₁ in
        let q : m ≡ n = cc in
        record { enough = h; within = omega arith; is = cc; puts = cc; next = cc }
    go (negsuc m) p h e₁ = absurd (ok_is_not_refused e₁)

pub whole_write : (cells : List ℤ) (f : Field) (i n : ℕ) → i < length cells → get_or cells i (pos 0) -ℤ f.lowest ≡ pos n → n ≤ f.span → write_whole f cells i ≡ ok n (to_bits (width f.span) n) (i + 1)
unfolding write_whole write_above
whole_write cells f i n h p q = rw (p, pass_le (suc i) (length cells), pass_le n f.span)

pub record WriteNumber (cells : List ℤ) (k : Coded) (i j n : ℕ) (out : List ℕ) : Type 0 where
  pub enough : i < length cells
  pub held : T (holds k n)
  pub is : get_or cells i (pos 0) ≡ pos n
  pub puts : coded k n ≡ out
  pub next : i + 1 ≡ j

pub write_number_lem : (cells : List ℤ) (k : Coded) (i : ℕ) {j n : ℕ} {out : List ℕ} → write_number k cells i ≡ ok n out j → WriteNumber cells k i j n out
unfolding write_number write_held
write_number_lem cells k i {j} {n} {out} e =
    let (h, e₁) = passed_le (suc i) (length cells) _ e in
    go (get_or cells i (pos 0)) refl h e₁
  where
    go : (z : ℤ) → get_or cells i (pos 0) ≡ z → i < length cells → write_held k z i ≡ ok n out j → WriteNumber cells k i j n out
    go (pos m) p h e₁ =
        let (u, e₂) = passed (holds k m) _ e₁ in
        let q : m ≡ n = cc in
        record { enough = h; held = rw q at u; is = cc; puts = cc; next = cc }
    go (negsuc m) p h e₁ = absurd (ok_is_not_refused e₁)

pub number_write : (cells : List ℤ) (k : Coded) (i n : ℕ) → i < length cells → get_or cells i (pos 0) ≡ pos n → T (holds k n) → write_number k cells i ≡ ok n (coded k n) (i + 1)
unfolding write_number write_held
number_write cells k i n h p q = rw (p, pass_le (suc i) (length cells)) (pass (holds k n) _ _ q)

-- ---- an open value that is written

pub record WriteOpened (f : Step (List ℤ) ℕ Value) (cells : List ℤ) (i j : ℕ) (v : Value) (out : List ℕ) : Type 0 where
  pub bits : List ℕ
  pub inner : f cells i ≡ ok v bits j
  pub puts : enclosed bits ≡ out

pub write_opened_lem : (f : Step (List ℤ) ℕ Value) (cells : List ℤ) (i : ℕ) {j : ℕ} {v : Value} {out : List ℕ} → write_opened f cells i ≡ ok v out j → WriteOpened f cells i j v out
unfolding write_opened write_closed
write_opened_lem f cells i {j} {v} {out} e = go (f cells i) refl e
  where
    go : (g : Got ℕ Value) → f cells i ≡ g → write_closed g ≡ ok v out j → WriteOpened f cells i j v out
    go (ok x bits m) p e =
        let q : x ≡ v = cc in
        let r : m ≡ j = cc in
        record { bits = bits; inner = p ∙ ap₂ (λ (y : Value) (n : ℕ). ok y bits n) q r; puts = cc }
    go (refused why) p e = absurd (ok_is_not_refused e)

pub opened_write : (f : Step (List ℤ) ℕ Value) (cells : List ℤ) (i j : ℕ) (v : Value) (bits : List ℕ) → f cells i ≡ ok v bits j → write_opened f cells i ≡ ok v (enclosed bits) j
unfolding write_opened write_closed
opened_write f cells i j v bits e = rw e refl

-- ---- an open value that is read

pub record ReadOpened (f : Step Source ℤ Value) (bs : List ℕ) (a : Around) (i j : ℕ) (v : Value) (out : List ℤ) : Type 0 where
  pub octets : ℕ
  pub from : ℕ
  pub to : ℕ
  pub length_read : Followed (tree an_extent) bs i from octets []
  pub inner : f (source bs (narrowed a (from + 8 * octets) i)) from ≡ ok v out to
  pub fits : octets_of (to - from) ≡ octets
  pub enough : from + 8 * octets - to ≤ length bs - to
  pub zeros : code bs to (from + 8 * octets - to) ≡ 0
  pub next : to + (from + 8 * octets - to) ≡ j

pub read_opened_lem : (f : Step Source ℤ Value) (bs : List ℕ) (a : Around) (i : ℕ) {j : ℕ} {v : Value} {out : List ℤ} → read_opened f (source bs a) i ≡ ok v out j → ReadOpened f bs a i j v out
unfolding read_opened closed clean
read_opened_lem f bs a i {j} {v} {out} e = start (came e)
  where
    pad : (n from to : ℕ) (x : Value) (cells : List ℤ) → Followed (tree an_extent) bs i from n [] → f (source bs (narrowed a (from + 8 * n) i)) from ≡ ok x cells to → octets_of (to - from) ≡ n
        → and_then (part to (from + 8 * n - to) (source bs a) to) (clean x cells to) ≡ ok v out j → ReadOpened f bs a i j v out
    pad n from to x cells F p fit e =
        let m : Came (part to (from + 8 * n - to) (source bs a) to) (clean x cells to) j v out = came e in
        let q = part_was to (from + 8 * n - to) bs a to m.at_first in
        let (z, e₁) = passed (eqb m.told 0) _ m.at_more in
        let zero-code : m.told ≡ 0 = eqb→eq m.told 0 z in
        let o : m.more ≡ out = ap (λ (l : List ℤ). l ++ m.more) q.puts ∙ m.both in
        let s : ok x cells to ≡ ok v out to = cc in
        record { octets = n; from = from; to = to; length_read = F; inner = p ∙ s; fits = fit; enough = q.enough; zeros = q.is ∙ zero-code; next = cc }

    close : (n from : ℕ) → Followed (tree an_extent) bs i from n [] → (g : Got ℤ Value) → f (source bs (narrowed a (from + 8 * n) i)) from ≡ g → closed i n from (source bs a) g ≡ ok v out j → ReadOpened f bs a i j v out
    close n from F (ok x cells to) p e =
        let (t, e₁) = passed (eqb (octets_of (to - from)) n) _ e in
        pad n from to x cells F p (eqb→eq (octets_of (to - from)) n t) e₁
    close n from F (refused why) p e = absurd (ok_is_not_refused e)

    start : Came (follow (tree an_extent) i (source bs a) i) (λ n from. closed i n from (source bs a) (f (source bs (narrowed a (from + 8 * n) i)) from)) j v out → ReadOpened f bs a i j v out
    start m =
        let F = followed (tree an_extent) i bs a i m.then m.told m.first m.at_first in
        let o : m.more ≡ out = ap (λ (l : List ℤ). l ++ m.more) F.puts ∙ m.both in
        close m.told m.then (record { onward = F.onward; within = F.within; puts = refl; leads = F.leads }) (f (source bs (narrowed a (m.then + 8 * m.told) i)) m.then) refl (m.at_more ∙ ap (λ (l : List ℤ). ok v l j) o)

pub opened_read : (f : Step Source ℤ Value) (bs : List ℕ) (a : Around) (i n from to : ℕ) (v : Value) (out : List ℤ)
    → follow (tree an_extent) i (source bs a) i ≡ ok n [] from
    → f (source bs (narrowed a (from + 8 * n) i)) from ≡ ok v out to
    → octets_of (to - from) ≡ n
    → Clear a (to + (from + 8 * n - to))
    → from + 8 * n - to ≤ length bs - to
    → code bs to (from + 8 * n - to) ≡ 0
    → read_opened f (source bs a) i ≡ ok v out (to + (from + 8 * n - to))
unfolding read_opened closed clean
opened_read f bs a i n from to v out l inner fits clear enough zeros =
    let w : ℕ = from + 8 * n - to in
    let p : part to w (source bs a) to ≡ ok 0 [] (to + w) = part_read to w bs a to clear enough ∙ ap (λ (k : ℕ). ok k [] (to + w)) zeros in
    then_ok (λ m from'. closed i m from' (source bs a) (f (source bs (narrowed a (from' + 8 * m) i)) from')) l
    (rw (inner) (pass (eqb (octets_of (to - from)) n) _ _ (rw (eq-eqb (octets_of (to - from)) n fits) tt) ∙ then_ok (clean v out to) p refl))
