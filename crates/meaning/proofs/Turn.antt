-- Reading and writing undo one another: what one puts out, the other takes in, wherever it stands, and puts out again what the one took in.
-- Assumes nothing.
use Prim.Native.Nat.{ℕ, zero, suc, ◌+◌, ◌-◌, ◌*◌, ◌≤◌, ◌<◌, ◌^◌, max}
use mathlib.Core.Path.{◌≡◌, refl, sym, ap, ap₂, subst, ◌∙◌}
use mathlib.Core.Bool.{Bool, true, false, cond}
use mathlib.Core.List.{List, [], ◌∷◌, ◌++◌, append_assoc, append-nil}
use native.Mathlib.Nat.{add-zero, zero-add, add_assoc, zero-div}
use native.Mathlib.Omega.{arith}
use native.Mathlib.Numerals.{add-one}
use lib.Dec.{T, ltb}
use lib.ListN.{length, take, drop, get_or, replicate, length-append, length-replicate, length-take, length-drop}
use lib.Seq.{slice, length-slice, take-length, slice_empty, slice-cons, append_snoc, get_or-append_seam}
use lib.IntN.{ℤ, pos, ◌+ℤ◌, ◌-ℤ◌, +ℤ_comm, -ℤ-+ℤ_cancel, +ℤ-neg_ℤ_cancel}
use Rattle.bits.specs.Numbers.{val, to_bits, Binary, width}
use Rattle.bits.specs.Fetching.{field_bits, code}
use Rattle.bits.proofs.Numbers.{binary_take, binary_drop, to_bits_length, val_to_bits_lt, to_bits_val, width_holds}
use Rattle.bits.proofs.Fetching.{field_length}
use Rattle.answers.specs.Refusals.{not_shortest, no_value}
use Rattle.types.specs.Shape.{Ty, Field}
use Rattle.meaning.specs.Values.{Value}
use Rattle.meaning.specs.Steps.{ok, Step, pure, ◌>>=◌, guarded}
use Rattle.meaning.specs.Walk.{walk}
use borrow.Author.Tests.{le-leb}
use Rattle.meaning.specs.Coded.{Coded, tree, length_bits, coded, an_extent}
use Rattle.meaning.specs.Reading.{Around, free, inside, Source, source, read_whole, read_extension, follow, shown, read_number, octets_of, narrowed, read_opened, reader, read}
use Rattle.meaning.specs.Writing.{write_whole, write_extension, write_number, enclosed, write_opened, write, Codes}
use Rattle.meaning.proofs.Steps.{bind_ok, Came, came, then_ok, guard_pass, slice_append, slice_part}
use Rattle.meaning.proofs.Forms.{Leads, leads, led, Led, Extent, extent_leads, extent_led, length_small}
use Rattle.meaning.proofs.Sides.{Clear, clear_less, middle, ReadWhole, read_whole_lem, whole_read, ReadExtension, read_extension_lem, extension_read, Followed, followed, following, WriteWhole, write_whole_lem, whole_write, WriteNumber, write_number_lem, number_write, WriteOpened, write_opened_lem, opened_write, ReadOpened, read_opened_lem, opened_read}
use Rattle.meaning.proofs.Every.{every}

-- ---- lists

one_cell : {A : Type 0} (l : List A) (i : ℕ) (d : A) → i < length l → slice i (i + 1) l ≡ get_or l i d ∷ []
one_cell l i d h = rw (add-one, slice-cons i (suc i) l d (omega arith) h, slice_empty)

get_or-middle : {A : Type 0} (pre : List A) (x : A) (post : List A) (d : A) → get_or (pre ++ (x ∷ []) ++ post) (length pre) d ≡ x
get_or-middle pre x post d = rw (append_snoc, get_or-append_seam)

binary_left : (s t : List ℕ) → Binary (s ++ t) → Binary s
binary_left [] t h = tt
binary_left (b ∷ s) t h = (h.0, binary_left s t h.1)

binary_right : (s t : List ℕ) → Binary (s ++ t) → Binary t
binary_right [] t h = h
binary_right (b ∷ s) t h = binary_right s t h.1

pub zeros : (n : ℕ) → val (replicate n 0) ≡ 0
unfolding val
zeros zero = refl
zeros (suc n) = omega (arith, zeros n)

no_bits : (n : ℕ) → to_bits n 0 ≡ replicate n 0
unfolding to_bits
no_bits zero = refl
no_bits (suc n) = rw (zero-div (2 ^ n), no_bits n)

pub all_zero : (bs : List ℕ) → Binary bs → val bs ≡ 0 → bs ≡ replicate (length bs) 0
all_zero bs h e = sym (to_bits_val bs h) ∙ ap (to_bits (length bs)) e ∙ no_bits (length bs)

above : (x lo : ℤ) (n : ℕ) → x -ℤ lo ≡ pos n → lo +ℤ pos n ≡ x
above x lo n p = rw (← p, +ℤ_comm lo (x -ℤ lo)) (-ℤ-+ℤ_cancel x lo)

-- ---- what was written is read back, wherever the open values around it do not end before it

-- a step of writing went from cell i to cell j, told x and put out bits: the step g of reading, wherever it finds them, tells x and puts out the cells from i to j
pub record Back (X : Type 0) (cells : List ℤ) (i j : ℕ) (x : X) (out : List ℕ) (g : Step Source ℤ X) : Type 0 where
  pub onward : i ≤ j
  pub back : Binary out → (a : Around) (pre post : List ℕ) → Clear a (length pre + length out) → g (source (pre ++ out ++ post) a) (length pre) ≡ ok x (slice i j cells) (length pre + length out)

back_pure : {X : Type 0} (x : X) (cells : List ℤ) (i : ℕ) → Back X cells i i x [] (pure x)
unfolding pure
back_pure x cells i = record { onward = omega arith; back = λ h a pre post c. rw (slice_empty, add-zero) }

back_bind : {X Y : Type 0} {cells : List ℤ} {i m j : ℕ} {x : X} {y : Y} {o more : List ℕ} {g : Step Source ℤ X} (l : X → Step Source ℤ Y) → Back X cells i m x o g → Back Y cells m j y more (l x) → Back Y cells i j y (o ++ more) (g >>= l)
back_bind {cells = cells} {i = i} {m = m} {j = j} {x = x} {y = y} {o = o} {more = more} {g = g} l F K =
    record {
      onward = omega arith;
      back = λ h a pre post c.
          let bs : List ℕ = pre ++ (o ++ more) ++ post in
          let n = length-append o more in
          let u : g (source bs a) (length pre) ≡ ok x (slice i m cells) (length (pre ++ o)) =
          simp (append_assoc, length-append) (simp (append_assoc) at (F.back (binary_left o more h) a pre (more ++ post) (clear_less a (length pre + length o) (length pre + length (o ++ more)) (omega arith) c)))
          in
          let v : l x (source bs a) (length (pre ++ o)) ≡ ok y (slice m j cells) (length pre + length (o ++ more)) =
          simp (append_assoc, length-append) (simp (append_assoc, length-append, add_assoc) at (K.back (binary_right o more h) a (pre ++ o) post (clear_less a (length (pre ++ o) + length more) (length pre + length (o ++ more)) (omega (arith, length-append pre o)) c)))
          in
          rw (← slice_append i m j cells F.onward K.onward) (bind_ok g l (source bs a) (length pre) u v);
    }

back_guard : {X : Type 0} (good : X → Bool) {cells : List ℤ} {i j : ℕ} {x : X} {out : List ℕ} {g : Step Source ℤ X} → T (good x) → Back X cells i j x out g → Back X cells i j x out (guarded not_shortest good g)
back_guard good {g = g} t F = record { onward = F.onward; back = λ h a pre post c. guard_pass not_shortest good g _ _ (F.back h a pre post c) t }

back_whole : (f : Field) (cells : List ℤ) (i j n : ℕ) (out : List ℕ) → write_whole f cells i ≡ ok n out j → Back ℕ cells i j n out (read_whole f)
back_whole f cells i j n out e =
    let c : WriteWhole cells f i j n out = write_whole_lem cells f i e in
    let w : length out ≡ width f.span = ap length (sym c.puts) ∙ to_bits_length (width f.span) n in
    record {
      onward = omega arith;
      back = λ h a pre post k.
          rw (w, ← c.next, one_cell cells i (pos 0) c.enough, ← above (get_or cells i (pos 0)) f.lowest n c.is)
          (whole_read (pre ++ out ++ post) a f (length pre) n (rw w at k) (simp length-append (omega arith)) (ap val (middle pre out post (width f.span) w ∙ sym c.puts) ∙ val_to_bits_lt (width f.span) n (omega (arith, width_holds f.span))) c.within);
    }

back_extension : (cells : List ℤ) (i j : ℕ) (x : Unit {0}) (out : List ℕ) → write_extension cells i ≡ ok x out j → Back (Unit {0}) cells i j x out read_extension
unfolding write_extension val
back_extension cells i j x out e =
    let p : 0 ∷ [] ≡ out = cc in
    let q : i ≡ j = cc in
    record {
      onward = omega arith;
      back = λ h a pre post k.
          rw (← p, ← q, slice_empty)
          (extension_read (pre ++ (0 ∷ []) ++ post) a (length pre) (rw (← p) at k) (simp length-append (omega arith)) (ap val (middle pre (0 ∷ []) post 1 refl)));
    }

back_number : (k : Coded) (cells : List ℤ) (i j n : ℕ) (out : List ℕ) → write_number k cells i ≡ ok n out j → Back ℕ cells i j n out (read_number k)
unfolding read_number shown
back_number k cells i j n out e =
    let c : WriteNumber cells k i j n out = write_number_lem cells k i e in
    record {
      onward = omega arith;
      back = λ h a pre post clear.
          rw (← c.next, one_cell cells i (pos 0) c.enough, c.is)
          (then_ok shown (following (tree k) (length pre) a out n (subst (λ (l : List ℕ). Leads (tree k) l n) c.puts (leads k n c.held)) pre post clear) refl);
    }

-- an open value: its length is read first, then its bits within its octets, then its padding
enclosed_length : (bits : List ℕ) → length (enclosed bits) ≡ length (length_bits (octets_of (length bits))) + 8 * octets_of (length bits)
unfolding enclosed
enclosed_length bits = let o : length bits ≤ 8 * octets_of (length bits) = omega arith in simp (length-append, length-replicate) (omega arith)

narrowed_own : (a : Around) (end place : ℕ) → Clear a end → narrowed a end place ≡ inside end place
unfolding narrowed
narrowed_own free end place c = refl
narrowed_own (inside last outer) end place c = rw (le-leb end last c) refl

back_open : (f : Step (List ℤ) ℕ Value) (g : Step Source ℤ Value) → ((cells : List ℤ) (i j : ℕ) (v : Value) (out : List ℕ) → f cells i ≡ ok v out j → Back Value cells i j v out g)
    → (cells : List ℤ) (i j : ℕ) (v : Value) (out : List ℕ) → write_opened f cells i ≡ ok v out j → Back Value cells i j v out (read_opened g)
unfolding enclosed
back_open f g F cells i j v out e =
    let c : WriteOpened f cells i j v out = write_opened_lem f cells i e in
    let bits : List ℕ = c.bits in
    let n : ℕ = octets_of (length bits) in
    let lead : List ℕ = length_bits n in
    let pad : List ℕ = replicate (8 * n - length bits) 0 in
    let inner : Back Value cells i j v bits g = F cells i j v bits c.inner in
    let o : length bits ≤ 8 * n = omega arith in
    let lp : length pad ≡ 8 * n - length bits = length-replicate (8 * n - length bits) 0 in
    let whole : length (enclosed bits) ≡ length lead + 8 * n = enclosed_length bits in
    record {
      onward = inner.onward;
      back = rw (← c.puts) (λ h a pre post clear.
          let bs : List ℕ = pre ++ (lead ++ (bits ++ pad)) ++ post in
          let small : n < 16384 = length_small n (binary_left lead (bits ++ pad) h) in
          let from : ℕ = length pre + length lead in
          let to : ℕ = from + length bits in
          let at₁ : bs ≡ pre ++ lead ++ ((bits ++ pad) ++ post) = simp append_assoc in
          let at₂ : bs ≡ (pre ++ lead) ++ bits ++ (pad ++ post) = simp append_assoc in
          let at₃ : bs ≡ (pre ++ lead ++ bits) ++ pad ++ post = simp append_assoc in
          let n₂ : length (pre ++ lead) ≡ from = length-append pre lead in
          let n₃ : length (pre ++ lead ++ bits) ≡ to = simp length-append (omega arith) in
          let end : to + (from + 8 * n - to) ≡ length pre + length (enclosed bits) = omega arith in
          let l : follow (tree an_extent) (length pre) (source bs a) (length pre) ≡ ok n [] from =
          ap (λ (l : List ℕ). follow (tree an_extent) (length pre) (source l a) (length pre)) at₁
          ∙ following (tree an_extent) (length pre) a lead n (extent_leads n (omega arith) small) pre ((bits ++ pad) ++ post) (clear_less a (length pre + length lead) (length pre + length (enclosed bits)) (omega arith) clear)
          in
          let own : narrowed a (from + 8 * n) (length pre) ≡ inside (from + 8 * n) (length pre) = narrowed_own a (from + 8 * n) (length pre) (clear_less a (from + 8 * n) (length pre + length (enclosed bits)) (omega arith) clear) in
          let r : g (source bs (narrowed a (from + 8 * n) (length pre))) from ≡ ok v (slice i j cells) to =
          ap (λ (b : Around). g (source bs b) from) own
          ∙ ap₂ (λ (l : List ℕ) (k : ℕ). g (source l (inside (from + 8 * n) (length pre))) k) at₂ (sym n₂)
          ∙ inner.back (binary_left bits pad (binary_right lead (bits ++ pad) h)) (inside (from + 8 * n) (length pre)) (pre ++ lead) (pad ++ post) (omega arith)
          ∙ ap (λ (k : ℕ). ok v (slice i j cells) (k + length bits)) n₂
          in
          let z : code bs to (from + 8 * n - to) ≡ 0 =
          ap₂ (λ (l : List ℕ) (k : ℕ). code l k (from + 8 * n - to)) at₃ (sym n₃)
          ∙ ap val (middle (pre ++ lead ++ bits) pad post (from + 8 * n - to) (omega arith)) ∙ zeros (8 * n - length bits)
          in
          let there : from + 8 * n - to ≤ length bs - to = rw (at₃) (simp length-append (omega arith)) in
          let fit : octets_of (to - from) ≡ n = ap octets_of (omega arith) in
          opened_read g bs a (length pre) n from to v (slice i j cells) l r fit (clear_less a (to + (from + 8 * n - to)) (length pre + length (enclosed bits)) (omega arith) clear) there z
          ∙ ap (ok v (slice i j cells)) end);
    }

-- write, then read
pub write_read : (t : Ty) (cells : List ℤ) (c c' : ℕ) (v : Value) (bits : List ℕ) → write t cells c ≡ ok v bits c' → Binary bits
    → (a : Around) (pre post : List ℕ) → Clear a (length pre + length bits) → walk t reader (source (pre ++ bits ++ post) a) (length pre) ≡ ok v (slice c c' cells) (length pre + length bits)
write_read t cells c c' v bits e =
    (every Back (record { fit_bit = tt; fit_octet = tt; at_pure = back_pure; at_bind = λ l. back_bind l; at_guard = λ u. back_guard; at_whole = λ f u. back_whole f; at_extension = back_extension; at_number = λ u. back_number; at_open = λ u. back_open }) t cells c c' v bits e).back

-- ---- what was read is written back

-- a step of reading went from bit i to bit j, told x and put out cells: the step g of writing, wherever it finds them, tells x and puts out the bits from i to j
pub record Forth (X : Type 0) (src : Source) (i j : ℕ) (x : X) (out : List ℤ) (g : Step (List ℤ) ℕ X) : Type 0 where
  pub onward : i ≤ j
  pub within : j ≤ max i (length src.bits)
  pub back : Binary src.bits → (pre post : List ℤ) → g (pre ++ out ++ post) (length pre) ≡ ok x (slice i j src.bits) (length pre + length out)

forth_pure : {X : Type 0} (x : X) (src : Source) (i : ℕ) → Forth X src i i x [] (pure x)
unfolding pure
forth_pure x src i = record { onward = omega arith; within = omega arith; back = λ h pre post. rw (slice_empty, add-zero) }

forth_bind : {X Y : Type 0} {src : Source} {i m j : ℕ} {x : X} {y : Y} {o more : List ℤ} {g : Step (List ℤ) ℕ X} (l : X → Step (List ℤ) ℕ Y) → Forth X src i m x o g → Forth Y src m j y more (l x) → Forth Y src i j y (o ++ more) (g >>= l)
forth_bind {src = src} {i = i} {m = m} {j = j} {x = x} {y = y} {o = o} {more = more} {g = g} l F K =
    record {
      onward = omega arith;
      within = omega arith;
      back = λ h pre post.
          let cs : List ℤ = pre ++ (o ++ more) ++ post in
          let u : g cs (length pre) ≡ ok x (slice i m src.bits) (length (pre ++ o)) = simp (append_assoc, length-append) (simp (append_assoc) at (F.back h pre (more ++ post))) in
          let v : l x cs (length (pre ++ o)) ≡ ok y (slice m j src.bits) (length pre + length (o ++ more)) = simp (append_assoc, length-append) (simp (append_assoc, length-append, add_assoc) at (K.back h (pre ++ o) post)) in
          rw (← slice_append i m j src.bits F.onward K.onward) (bind_ok g l cs (length pre) u v);
    }

forth_guard : {X : Type 0} (good : X → Bool) {src : Source} {i j : ℕ} {x : X} {out : List ℤ} {g : Step (List ℤ) ℕ X} → T (good x) → Forth X src i j x out g → Forth X src i j x out (guarded no_value good g)
forth_guard good {g = g} t F = record { onward = F.onward; within = F.within; back = λ h pre post. guard_pass no_value good g _ _ (F.back h pre post) t }

forth_whole : (f : Field) (src : Source) (i j n : ℕ) (out : List ℤ) → read_whole f src i ≡ ok n out j → Forth ℕ src i j n out (write_whole f)
forth_whole f src i j n out e =
    let bs : List ℕ = src.bits in
    let c : ReadWhole bs f i j n out = read_whole_lem bs src.around f i e in
    let part : List ℕ = field_bits bs i (width f.span) in
    let w : length part ≡ width f.span = field_length bs i (width f.span) c.enough in
    record {
      onward = omega arith;
      within = omega arith;
      back = λ h pre post.
          let bits : to_bits (width f.span) n ≡ slice i (i + width f.span) bs =
          rw (← c.is, slice_part i (width f.span) bs) (rw w at (to_bits_val part (binary_take (width f.span) (drop i bs) (binary_drop i bs h))))
          in
          rw (← c.puts, ← c.next, ← bits)
          (whole_write (pre ++ ((f.lowest +ℤ pos n) ∷ []) ++ post) f (length pre) n (simp length-append (omega arith)) (rw (get_or-middle, +ℤ_comm f.lowest (pos n)) (+ℤ-neg_ℤ_cancel (pos n) f.lowest)) c.within);
    }

forth_extension : (src : Source) (i j : ℕ) (x : Unit {0}) (out : List ℤ) → read_extension src i ≡ ok x out j → Forth (Unit {0}) src i j x out write_extension
unfolding write_extension to_bits
forth_extension src i j x out e =
    let bs : List ℕ = src.bits in
    let c : ReadExtension bs i j out = read_extension_lem bs src.around i e in
    let part : List ℕ = field_bits bs i 1 in
    let w : length part ≡ 1 = field_length bs i 1 c.enough in
    record {
      onward = omega arith;
      within = omega arith;
      back = λ h pre post.
          let back : to_bits 1 (val part) ≡ part = rw w at (to_bits_val part (binary_take 1 (drop i bs) (binary_drop i bs h))) in
          let bits : to_bits 1 0 ≡ slice i (i + 1) bs = ap (to_bits 1) (sym c.is) ∙ back ∙ sym (slice_part i 1 bs) in
          rw (← c.puts, ← c.next, ← bits, add-zero) refl;
    }

forth_number : (k : Coded) (src : Source) (i j n : ℕ) (out : List ℤ) → read_number k src i ≡ ok n out j → Forth ℕ src i j n out (write_number k)
unfolding read_number shown
forth_number k src i j n out e =
    let bs : List ℕ = src.bits in
    let m : Came (follow (tree k) i src i) shown j n out = came e in
    let F : Followed (tree k) bs i m.then m.told m.first = followed (tree k) i bs src.around i m.then m.told m.first m.at_first in
    let p : m.told ≡ n = cc in
    let q : m.then ≡ j = cc in
    let r : pos n ∷ [] ≡ m.more = cc in
    let o : pos n ∷ [] ≡ out = r ∙ ap (λ (l : List ℤ). l ++ m.more) F.puts ∙ m.both in
    record {
      onward = omega arith;
      within = omega arith;
      back = λ h pre post.
          let L : Led k (slice i m.then bs) m.told = led k (slice i m.then bs) m.told (F.leads h) in
          let s : slice i j bs ≡ coded k n = ap (λ (t : ℕ). slice i t bs) (sym q) ∙ L.is ∙ ap (coded k) p in
          rw (← o, s) (number_write (pre ++ (pos n ∷ []) ++ post) k (length pre) n (simp length-append (omega arith)) (get_or-middle pre (pos n) post (pos 0)) (rw p at L.held));
    }

-- a length takes at least a bit
lead_some : (n : ℕ) → 0 < length (length_bits n)
unfolding length_bits to_bits
lead_some n = go (ltb n 128) (ltb n 16384)
  where
    go : (a b : Bool) → 0 < length (cond a (to_bits 8 n) (cond b (to_bits 16 (32768 + n)) (2 ∷ [])))
    go true b = omega arith
    go false true = omega arith
    go false false = omega arith

padding_left : (n from to j m t : ℕ) → from ≤ to → to - from ≤ 8 * n → to + (from + 8 * n - to) ≡ j → m ≡ to - from → t ≡ j - to → t ≡ 8 * n - m
padding_left n from to j m t p q r s u = omega arith

enclosed_is : (lead mid tail : List ℕ) (n : ℕ) → octets_of (length mid) ≡ n → lead ≡ length_bits n → tail ≡ replicate (8 * n - length mid) 0 → enclosed mid ≡ lead ++ (mid ++ tail)
unfolding enclosed
enclosed_is lead mid tail n o l t =
    ap (λ (k : ℕ). length_bits k ++ (mid ++ replicate (8 * k - length mid) 0)) o ∙ ap₂ (λ (x y : List ℕ). x ++ (mid ++ y)) (sym l) (sym t)

-- the bits of an open value, from its length to the end of its padding, are those that are written of its bits
enclosed_slice : (bs : List ℕ) → Binary bs → (i from to j n : ℕ) → i ≤ from → from ≤ to → to ≤ j → j ≤ length bs → slice i from bs ≡ length_bits n → octets_of (to - from) ≡ n → to + (from + 8 * n - to) ≡ j
    → code bs to (from + 8 * n - to) ≡ 0 → enclosed (slice from to bs) ≡ slice i j bs
enclosed_slice bs h i from to j n p q r s l fit next zero-code =
    enclosed_is (slice i from bs) (slice from to bs) (slice to j bs) n (ap octets_of ml ∙ fit) l zs
    ∙ ap (λ (y : List ℕ). slice i from bs ++ y) (slice_append from to j bs q r)
    ∙ slice_append i from j bs p (omega arith)
  where
    ml : length (slice from to bs) ≡ to - from
    ml = length-slice from to bs (omega arith)

    tl : length (slice to j bs) ≡ j - to
    tl = length-slice to j bs s

    ends : slice to j bs ≡ field_bits bs to (from + 8 * n - to)
    ends = ap (λ (k : ℕ). slice to k bs) (sym next) ∙ slice_part to (from + 8 * n - to) bs

    zs : slice to j bs ≡ replicate (8 * n - length (slice from to bs)) 0
    zs =
        all_zero (slice to j bs) (binary_drop to (take j bs) (binary_take j bs h)) (ap val ends ∙ zero-code)
        ∙ ap (λ (k : ℕ). replicate k 0) (padding_left n from to j (length (slice from to bs)) (length (slice to j bs)) q (omega arith) next ml tl)

module _ (f : Step Source ℤ Value) (g : Step (List ℤ) ℕ Value) (F : (src : Source) (i j : ℕ) (v : Value) (out : List ℤ) → f src i ≡ ok v out j → Forth Value src i j v out g)
    (bs : List ℕ) (a : Around) (i j : ℕ) (v : Value) (out : List ℤ) (c : ReadOpened f bs a i j v out) where
  abbrev end : ℕ
  end = c.from + 8 * c.octets

  inner : Forth Value (source bs (narrowed a end i)) c.from c.to v out g
  inner = F (source bs (narrowed a end i)) c.from c.to v out c.inner

  before : c.to ≤ j
  before = omega (arith, c.next)

  lead_led : Binary bs → Extent (slice i c.from bs) c.octets
  lead_led h = extent_led (slice i c.from bs) c.octets (c.length_read.leads h)

  lead_there : Binary bs → i < c.from
  lead_there h =
      omega (arith, ap length (lead_led h).is, lead_some c.octets, length-take c.from bs, length-drop i (take c.from bs))

  last_there : Binary bs → j ≤ length bs
  last_there h = omega (arith, lead_there h, c.length_read.within, inner.within, c.enough, c.next)

  opened_forth : Forth Value (source bs a) i j v out (write_opened g)
  opened_forth =
      record {
        onward = omega (arith, c.length_read.onward, inner.onward, before);
        within = omega (arith, c.length_read.within, inner.within, c.enough, c.next);
        back = λ h pre post.
            opened_write g (pre ++ out ++ post) (length pre) (length pre + length out) v (slice c.from c.to bs) (inner.back h pre post)
            ∙ ap (λ (l : List ℕ). ok v l (length pre + length out))
            (enclosed_slice bs h i c.from c.to j c.octets c.length_read.onward inner.onward before (last_there h) (lead_led h).is c.fits c.next c.zeros);
      }

forth_open : (f : Step Source ℤ Value) (g : Step (List ℤ) ℕ Value) → ((src : Source) (i j : ℕ) (v : Value) (out : List ℤ) → f src i ≡ ok v out j → Forth Value src i j v out g)
    → (src : Source) (i j : ℕ) (v : Value) (out : List ℤ) → read_opened f src i ≡ ok v out j → Forth Value src i j v out (write_opened g)
forth_open f g F src i j v out e = opened_forth f g F src.bits src.around i j v out (read_opened_lem f src.bits src.around i e)

-- read, then write; and reading goes forward, and stays inside
pub read_turned : (t : Ty) (src : Source) (i j : ℕ) (v : Value) (cells : List ℤ) → walk t reader src i ≡ ok v cells j → Forth Value src i j v cells (write t)
read_turned =
    every Forth (record { fit_bit = tt; fit_octet = tt; at_pure = forth_pure; at_bind = λ l. forth_bind l; at_guard = λ u. forth_guard; at_whole = λ f u. forth_whole f; at_extension = forth_extension; at_number = λ u. forth_number; at_open = λ u. forth_open })

pub read_write : (t : Ty) (bs : List ℕ) → Binary bs → (i j : ℕ) (v : Value) (cells : List ℤ) → read t bs i ≡ ok v cells j
    → (pre post : List ℤ) → write t (pre ++ cells ++ post) (length pre) ≡ ok v (slice i j bs) (length pre + length cells)
read_write t bs h i j v cells e = (read_turned t (source bs free) i j v cells e).back h

-- the same of whole values
pub codes_read : (t : Ty) (v : Value) (cells : List ℤ) (bits : List ℕ) → Codes t v cells bits → Binary bits → read t bits 0 ≡ ok v cells (length bits)
codes_read t v cells bits e h = rw (append-nil, zero-add, take-length) at (write_read t cells 0 (length cells) v bits e h free [] [] tt)
