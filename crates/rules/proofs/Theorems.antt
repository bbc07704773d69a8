-- What the rules say of a value: an RSI with neither list passes, any other frame is 11, and no value is told to be none; and that they name the components that they mean.
-- Assumes nothing.
use Prim.Native.Nat.{ℕ, suc}
use mathlib.Core.Bool.{Bool, true, false, cond, ◌||◌}
use mathlib.Core.Path.{◌≡◌}
use native.Mathlib.Omega.{arith}
use borrow.Author.Tests.{ne_eqb}
use lib.Dec.{T, eqb}
use Rattle.types.specs.Rows.{rows}
use Rattle.types.specs.Rule.{◌&◌}
use Rattle.types.specs.Names.{row_of}
use Rattle.meaning.specs.Values.{Value, Parts, Values}
use Rattle.meaning.specs.Values.Value.{whole, sequence, chosen, items, beyond, extended, added, picked, kept}
use Rattle.meaning.specs.Values.Parts.{finished}
use Rattle.meaning.specs.Values.Values.{no_items, item}
use Rattle.sheet.specs.Values.{has, parts_of, entries}
use Rattle.sheet.proofs.Named.{is_called}
use Rattle.messages.specs.Message.{message_frame, rsi_frame, no_frame, message, message_of}
use Rattle.messages.proofs.Entries.{no_entries}
use Rattle.rules.specs.Components.{rtes, rtss, event_pos, event_radius, event_paths, event_links, sign_pos, sign_description, sign_paths, sign_links}
use Rattle.rules.specs.Rsi.{ruling, passes, event_rule, sign_rule, first_broken, rsi_ruling, message_ruling}
use Rattle.rules.specs.Ruling.{Ruling}

-- ---- document 01: "An RSI with neither list passes"

pub neither_list_passes : (rsi : Parts) → has 4 rsi ≡ false → has 5 rsi ≡ false → rsi_ruling rsi ≡ passes
unfolding rsi_ruling first_broken
neither_list_passes rsi events signs = rw (no_entries 4 rsi events, no_entries 5 rsi signs)

-- ---- a frame with another message

pub other_frame : (n : ℕ) (v : Value) → (n ≡ 4 → ⊥) → message_ruling (message_of (chosen n v)) ≡ ruling 11 0
unfolding message_ruling message_of
other_frame n v h = rw (ne_eqb n 4 h)

-- ---- 7 is about sheets that are no value: of a value it is never told

event_number : (event : Parts) → event_rule event ≡ 7 → ⊥
unfolding event_rule
event_number event = go (has 3 event) (has 4 event || has 8 event || has 9 event)
  where
    go : (a b : Bool) → ◌≡◌ {A = ℕ} (cond a (cond b 0 13) 12) 7 → ⊥
    go true true e = omega arith
    go true false e = omega arith
    go false b e = omega arith

sign_number : (sign : Parts) → sign_rule sign ≡ 7 → ⊥
unfolding sign_rule
sign_number sign = go (has 2 sign) (has 3 sign) (has 6 sign || has 7 sign)
  where
    go : (a b c : Bool) → ◌≡◌ {A = ℕ} (cond a (cond b (cond c 0 16) 15) 14) 7 → ⊥
    go true true true e = omega arith
    go true true false e = omega arith
    go true false c e = omega arith
    go false b c e = omega arith

first_number : (rule : Parts → ℕ) → ((p : Parts) → rule p ≡ 7 → ⊥) → (i : ℕ) (vs : Values) (behind : Ruling) → (behind.number ≡ 7 → ⊥) → (first_broken rule i vs behind).number ≡ 7 → ⊥
unfolding first_broken
first_number rule h i no_items behind k = k
first_number rule h i (item v more) behind k = go (eqb (rule (parts_of v)) 0) (first_number rule h (suc i) more behind k)
  where
    go : (t : Bool) → ((first_broken rule (suc i) more behind).number ≡ 7 → ⊥) → (cond t (first_broken rule (suc i) more behind) (ruling (rule (parts_of v)) i)).number ≡ 7 → ⊥
    go true later = later
    go false later = h (parts_of v)

message_number : (n : ℕ) (parts : Parts) → (message_ruling (message n parts)).number ≡ 7 → ⊥
unfolding message_ruling rsi_ruling
message_number n parts = go (eqb n 4)
  where
    go : (t : Bool) → (cond t (rsi_ruling parts) (ruling 11 0)).number ≡ 7 → ⊥
    go true = first_number event_rule event_number 0 (entries 4 parts) (first_broken sign_rule 0 (entries 5 parts) passes) (first_number sign_rule sign_number 0 (entries 5 parts) passes (λ z. omega arith))
    go false = λ z. omega arith

pub value_number : (frame : Value) → (message_ruling (message_of frame)).number ≡ 7 → ⊥
unfolding message_of
value_number (whole n) = message_number no_frame finished
value_number (sequence parts) = message_number no_frame finished
value_number (chosen n v) = message_number n (parts_of v)
value_number (items vs) = message_number no_frame finished
value_number (beyond n) = message_number no_frame finished
value_number (extended parts more) = message_number no_frame finished
value_number (added n v) = message_number no_frame finished
value_number (picked n v) = message_number no_frame finished
value_number (kept vs) = message_number no_frame finished

-- ---- the components that the rules name are those of these names in source 000

pub components_named : T (
    eqb message_frame (row_of "MessageFrame")
    & is_called "MessageFrame" rsi_frame "rsiFrame"
    & is_called "RoadSideInformation" rtes "rtes"
    & is_called "RoadSideInformation" rtss "rtss"
    & is_called "RTEData" event_pos "eventPos"
    & is_called "RTEData" event_radius "eventRadius"
    & is_called "RTEData" event_paths "referencePaths"
    & is_called "RTEData" event_links "referenceLinks"
    & is_called "RTSData" sign_pos "signPos"
    & is_called "RTSData" sign_description "description"
    & is_called "RTSData" sign_paths "referencePaths"
    & is_called "RTSData" sign_links "referenceLinks")
unfolding rows is_called
components_named = tt
