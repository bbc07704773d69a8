-- Which numbers reading and writing refuse with: 3, 5, 6, 27 or a field's own while reading, of which edition 1 has neither 6 nor 27; 7 while writing.
-- Assumes nothing.
use Prim.Native.Nat.{ℕ, zero, suc, ◌+◌, ◌-◌, ◌*◌, ◌≤◌}
use mathlib.Core.Path.{◌≡◌, refl, subst, ap}
use mathlib.Core.Bool.{Bool, true, false, cond}
use mathlib.Core.Logic.{◌⊎◌, inl, inr}
use mathlib.Core.List.{List, [], ◌∷◌}
use native.Mathlib.Omega.{arith}
use lib.Dec.{leb, ltb, eqb}
use lib.IntN.{ℤ, pos, negsuc, ◌+ℤ◌, ◌-ℤ◌}
use lib.ListN.{length, get_or}
use Rattle.bits.specs.Numbers.{width}
use Rattle.bits.specs.Fetching.{field_bits, code}
use Rattle.answers.specs.declared.Refusal.{Refusal}
use Rattle.answers.specs.GivenBack as number
use Rattle.answers.specs.Refusals.{refusal, short_by, naming, extended, not_shortest, no_value}
use Rattle.types.specs.Shape.{Ty, Field}
use Rattle.meaning.specs.Values.{Value}
use Rattle.meaning.specs.Steps.{Got, ok, refused, Step, pure, prepend, and_then, ◌>>=◌, judged_by, guarded}
use Rattle.meaning.specs.Coded.{Tree, found, wrong, ask, Coded, tree, holds, an_extent}
use Rattle.meaning.specs.Walk.{walk}
use Rattle.meaning.specs.Reading.{Around, free, inside, Source, source, within, part, judged, read_whole, unextended, read_extension, follow, shown, read_number, octets_of, narrowed, clean, closed, read_opened, reader, read}
use Rattle.meaning.specs.Writing.{write_whole, write_above, write_extension, write_number, write_held, write_opened, write_closed, writer, write}
use Rattle.types.specs.Table.{type_of, the_rows}
use Rattle.meaning.proofs.Every.{Each, in_walk, related}
use Rattle.meaning.proofs.Plain.{Numbered, Plain, the_types_plain}
use Rattle.answers.specs.declared.reasons.Reason.TheVariants as reason
use Rattle.answers.specs.Reasons.{reason_number}

-- where it refuses, the refusal is such a one
abbrev pub Refuses : {B X : Type 0} → (Refusal → Type 0) → Got B X → Type 0
Refuses P (ok x out next) = Unit {0}
Refuses P (refused why) = P why

module _ (P : Refusal → Type 0) {B : Type 0} where
  refuses_prepend : {X : Type 0} (out : List B) (g : Got B X) → Refuses P g → Refuses P (prepend out g)
  unfolding prepend
  refuses_prepend out (ok x more next) h = tt
  refuses_prepend out (refused why) h = h

  pub refuses_then : {X Y : Type 0} (g : Got B X) (k : X → ℕ → Got B Y) → Refuses P g → ((x : X) (i : ℕ) → Refuses P (k x i)) → Refuses P (and_then g k)
  unfolding and_then
  refuses_then (ok x out next) k h l = refuses_prepend out (k x next) (l x next)
  refuses_then (refused why) k h l = h

  pub refuses_test : {X : Type 0} (b : Bool) (g : Got B X) (why : Refusal) → Refuses P g → P why → Refuses P (cond b g (refused why))
  refuses_test true g why h p = h
  refuses_test false g why h p = p

  refuses_judged : {X : Type 0} (good : X → Bool) (why : Refusal) (g : Got B X) → Refuses P g → P why → Refuses P (judged_by good why g)
  unfolding judged_by
  refuses_judged good why (ok x out next) h p = refuses_test (good x) (ok x out next) why tt p
  refuses_judged good why (refused other) h p = h

-- ---- reading

-- 3 to 5, of which 4 is that of a field that belongs to no row, or 41 to 44
abbrev pub RowReads : ℕ → Type 0
RowReads n = ((number.short ≤ n) × (n ≤ number.extended)) ⊎ ((number.number_outside ≤ n) × (n ≤ number.size_outside))

-- besides, of edition 2, 6 and 27
abbrev pub Reads : ℕ → Type 0
Reads n = RowReads n ⊎ ((n ≡ number.spare_bits) ⊎ (n ≡ number.not_shortest))

abbrev R : Refusal → Type 0
R why = Reads (reason_number why.reason)

abbrev Simple : Refusal → Type 0
Simple why = RowReads (reason_number why.reason)

told_by : (f : Field) → Numbered f → RowReads (reason_number f.outside)
told_by f (inl e) = inl (omega arith, omega arith)
told_by f (inr h) = inr h

within_refuses : {X : Type 0} (a : Around) (end : ℕ) (g : Got ℤ X) → Refuses R g → Refuses R (within a end g)
unfolding within
within_refuses free end g h = h
within_refuses (inside last place) end g h = refuses_test R (leb end last) g (not_shortest place) h (inr (inr refl))

part_refuses : (first w : ℕ) (src : Source) (i : ℕ) → Refuses R (part first w src i)
unfolding part
part_refuses first w src i = within_refuses src.around (i + w) _ (refuses_test R (leb w (length (field_bits src.bits i w))) _ _ tt (inl (inl (omega arith, omega arith))))

follow_refuses : (tr : Tree) (first : ℕ) (src : Source) (i : ℕ) → Refuses R (follow tr first src i)
unfolding follow
follow_refuses (found n) first src i = tt
follow_refuses wrong first src i = inr (inr refl)
follow_refuses (ask w k) first src i = refuses_then R (part first w src i) (λ b. follow (k b) first src) (part_refuses first w src i) (λ b m. follow_refuses (k b) first src m)

closed_refuses : (place octets from : ℕ) (src : Source) (g : Got ℤ Value) → Refuses R g → Refuses R (closed place octets from src g)
unfolding closed clean
closed_refuses place octets from src (ok v out at) h =
    refuses_test R (eqb (octets_of (at - from)) octets) _ (not_shortest place)
    (refuses_then R (part at (from + 8 * octets - at) src at) (clean v out at) (part_refuses at (from + 8 * octets - at) src at) (λ n m. refuses_test R (eqb n 0) (ok v out m) _ tt (inr (inl refl))))
    (inr (inr refl))
closed_refuses place octets from src (refused why) h = h

judged_refuses : (P : Refusal → Type 0) (f : Field) (i n m : ℕ) → P (naming f.outside f.row i) → Refuses P (judged f i n m)
unfolding judged
judged_refuses P f i n m h = refuses_test P (leb n f.span) (ok n ((f.lowest +ℤ pos n) ∷ []) m) (naming f.outside f.row i) tt h

pub unextended_refuses : (P : Refusal → Type 0) (i n m : ℕ) → P (extended i) → Refuses P (unextended i n m)
unfolding unextended
unextended_refuses P i zero m h = tt
unextended_refuses P i (suc n) m h = h

abbrev OnlyR : (X : Type 0) → Step Source ℤ X → Step Source ℤ X → Type 0
OnlyR X f g = (src : Source) (i : ℕ) → Refuses R (f src i)

reading_refuses : (t : Ty) → Each Numbered (Unit {0}) t → OnlyR Value (walk t reader) (walk t reader)
unfolding pure ◌>>=◌ guarded read_whole read_extension read_number shown read_opened
reading_refuses t = in_walk OnlyR {S' = reader} (record {
  fit_bit = inl refl;
  fit_octet = inl refl;
  at_pure = λ x src i. tt;
  at_bind = λ {X} {Y} {f} {g} {k} F G src i. refuses_then R (f src i) (λ x. k x src) (F src i) (λ x m. G x src m);
  at_guard = λ u good {f} {g} F src i. refuses_judged R good (not_shortest i) (f src i) (F src i) (inr (inr refl));
  at_whole = λ f u src i. refuses_then R (part i (width f.span) src i) (judged f i) (part_refuses i (width f.span) src i) (λ n m. judged_refuses R f i n m (inl (told_by f u)));
  at_extension = λ src i. refuses_then R (part i 1 src i) (unextended i) (part_refuses i 1 src i) (λ n m. unextended_refuses R i n m (inl (inl (omega arith, omega arith))));
  at_number = λ u c src i. refuses_then R (follow (tree c) i src i) shown (follow_refuses (tree c) i src i) (λ n m. tt);
  at_open = λ u {f} {g} F src i. refuses_then R (follow (tree an_extent) i src i) (λ n from. closed i n from src (f (source src.bits (narrowed src.around (from + 8 * n) i)) from))
      (follow_refuses (tree an_extent) i src i) (λ n from. closed_refuses i n from src (f (source src.bits (narrowed src.around (from + 8 * n) i)) from) (F (source src.bits (narrowed src.around (from + 8 * n) i)) from));
}) t

pub read_number_lem : (t : Ty) → Each Numbered (Unit {0}) t → (bs : List ℕ) (i : ℕ) (why : Refusal) → read t bs i ≡ refused why → Reads (reason_number why.reason)
read_number_lem t h bs i why e = subst (Refuses R) e (reading_refuses t h (source bs free) i)

-- ---- reading, of a type that has none of those that edition 2 alone has

plain_part : (first w : ℕ) (bs : List ℕ) (i : ℕ) → Refuses Simple (part first w (source bs free) i)
unfolding part within
plain_part first w bs i = refuses_test Simple (leb w (length (field_bits bs i w))) (ok (code bs i w) [] (i + w)) (short_by (w - length (field_bits bs i w)) first) tt (inl (omega arith, omega arith))

abbrev OnlyPlain : (X : Type 0) → Step Source ℤ X → Step Source ℤ X → Type 0
OnlyPlain X f g = (bs : List ℕ) (i : ℕ) → Refuses Simple (f (source bs free) i)

plain_refuses : (t : Ty) → Plain t → OnlyPlain Value (walk t reader) (walk t reader)
unfolding pure ◌>>=◌ read_whole read_extension
plain_refuses t = in_walk OnlyPlain {S' = reader} (record {
  fit_bit = inl refl;
  fit_octet = inl refl;
  at_pure = λ x bs i. tt;
  at_bind = λ {X} {Y} {f} {g} {k} F G bs i. refuses_then Simple (f (source bs free) i) (λ x. k x (source bs free)) (F bs i) (λ x m. G x bs m);
  at_guard = λ u. absurd u;
  at_whole = λ f u bs i. refuses_then Simple (part i (width f.span) (source bs free) i) (judged f i) (plain_part i (width f.span) bs i) (λ n m. judged_refuses Simple f i n m (told_by f u));
  at_extension = λ bs i. refuses_then Simple (part i 1 (source bs free) i) (unextended i) (plain_part i 1 bs i) (λ n m. unextended_refuses Simple i n m (inl (omega arith, omega arith)));
  at_number = λ u. absurd u;
  at_open = λ u. absurd u;
}) t

pub plain_number : (t : Ty) → Plain t → (bs : List ℕ) (i : ℕ) (why : Refusal) → read t bs i ≡ refused why → RowReads (reason_number why.reason)
plain_number t h bs i why e = subst (Refuses Simple) e (plain_refuses t h bs i)

-- of the rows of edition 1
pub row_number : (row : ℕ) (bs : List ℕ) (i : ℕ) (why : Refusal) → read (type_of the_rows row) bs i ≡ refused why → RowReads (reason_number why.reason)
row_number row = plain_number (type_of the_rows row) (the_types_plain (row + 1) row)

-- none of them is below 3
pub reads_least : {n : ℕ} → RowReads n → 3 ≤ n
reads_least (inl h) = h.0
reads_least (inr h) = omega arith

-- and none is that of a sheet without room
pub reads_room : {n : ℕ} → RowReads n → n ≡ number.no_room → ⊥
reads_room (inl h) e = omega arith
reads_room (inr h) e = omega arith

-- ---- writing

abbrev W : Refusal → Type 0
W why = why ≡ no_value why.place

above_refuses : (span : ℕ) (z : ℤ) (i : ℕ) → Refuses W (write_above span z i)
unfolding write_above
above_refuses span (pos n) i = refuses_test W (leb n span) _ _ tt refl
above_refuses span (negsuc n) i = refl

held_refuses : (k : Coded) (z : ℤ) (i : ℕ) → Refuses W (write_held k z i)
unfolding write_held
held_refuses k (pos n) i = refuses_test W (holds k n) _ _ tt refl
held_refuses k (negsuc n) i = refl

enclosing_refuses : (g : Got ℕ Value) → Refuses W g → Refuses W (write_closed g)
unfolding write_closed
enclosing_refuses (ok v bits next) h = tt
enclosing_refuses (refused why) h = h

abbrev OnlyW : (X : Type 0) → Step (List ℤ) ℕ X → Step (List ℤ) ℕ X → Type 0
OnlyW X f g = (cells : List ℤ) (i : ℕ) → Refuses W (f cells i)

writing_refuses : (t : Ty) → OnlyW Value (write t) (write t)
unfolding pure ◌>>=◌ guarded write_whole write_extension write_number write_opened
writing_refuses t = related OnlyW {S' = writer} (record {
  fit_bit = tt;
  fit_octet = tt;
  at_pure = λ x cells i. tt;
  at_bind = λ {X} {Y} {f} {g} {k} F G cells i. refuses_then W (f cells i) (λ x. k x cells) (F cells i) (λ x m. G x cells m);
  at_guard = λ u good {f} {g} F cells i. refuses_judged W good _ (f cells i) (F cells i) refl;
  at_whole = λ f u cells i. refuses_test W (ltb i (length cells)) (write_above f.span (get_or cells i (pos 0) -ℤ f.lowest) i) _ (above_refuses f.span (get_or cells i (pos 0) -ℤ f.lowest) i) refl;
  at_extension = λ cells i. tt;
  at_number = λ u k cells i. refuses_test W (ltb i (length cells)) (write_held k (get_or cells i (pos 0)) i) _ (held_refuses k (get_or cells i (pos 0)) i) refl;
  at_open = λ u {f} {g} F cells i. enclosing_refuses (f cells i) (F cells i);
}) t

-- 7 and its place, and nothing besides
pub write_refusal : (t : Ty) (cells : List ℤ) (i : ℕ) (why : Refusal) → write t cells i ≡ refused why → why ≡ refusal reason.NoValue why.place
write_refusal t cells i why e = subst (Refuses W) e (writing_refuses t cells i)

pub write_number_lem : (t : Ty) (cells : List ℤ) (i : ℕ) (why : Refusal) → write t cells i ≡ refused why → reason_number why.reason ≡ 7
write_number_lem t cells i why e = ap (λ (r : Refusal). reason_number r.reason) (write_refusal t cells i why e)

-- so it names no row
pub write_row : (t : Ty) (cells : List ℤ) (i : ℕ) (why : Refusal) → write t cells i ≡ refused why → why.row ≡ 0
write_row t cells i why e = ap (λ (r : Refusal). r.row) (write_refusal t cells i why e)
