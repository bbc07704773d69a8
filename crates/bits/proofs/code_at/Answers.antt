-- `bits::code_at` meets its contract. Up to eight bits are its callee's; more by a loop. The invariant: what was read so far is the code of so many whole bytes; a turn is `code_byte`, and the end `code_within`.
-- Assumes nothing.
use mathlib.Core.Path.{◌≡◌, ap, ap₂, ◌∙◌}
use mathlib.Core.List.{List}
use Prim.Native.Nat.{ℕ, ◌+◌, ◌-◌, ◌*◌, ◌/◌, ◌%◌, ◌^◌, ◌<◌}
use native.Mathlib.Omega.{arith}
use lib.ListN.{take, drop, get_or, length-take, length-drop}
use lib.Pow.{pow_pos}
use Rattle.std.proofs.lemmas.List.{get_or-take, get_or-drop}
use Rattle.bits.specs.Bytes.{bits_of}
use Rattle.bits.specs.Fetching
use Rattle.bits.proofs.Bytes.{bits_of_binary, bits_of_length, code_lt, code_none, code_byte, code_within}
use Rattle.bits.proofs.code_at.Goals as goal

-- of the n bytes from a place on, the one with the number k
part_item : (bytes : List ℕ) (first n k : ℕ) → k < n → get_or (take n (drop first bytes)) k 0 ≡ get_or bytes (first + k) 0
part_item bytes first n k h = get_or-take n (drop first bytes) k 0 h ∙ get_or-drop first bytes k 0

pub loop-byte-init : goal.loop-byte-init
loop-byte-init c = code_none (bits_of c.args.bytes.now) (8 * (c.args.at / 8))

pub overflow_mul-all : goal.overflow_mul-all
overflow_mul-all c =
    let l = c.loop-byte in
    let a = c.args in
    let few : 8 * l.byte-index < 40 = omega (arith, length-take {A = ℕ}) in
    omega (arith, l.invariant, code_lt (bits_of a.bytes.now) (bits_of_binary a.bytes.now) (8 * (a.at / 8)) (8 * l.byte-index) 40 (omega arith))

pub overflow_add-all : goal.overflow_add-all
overflow_add-all c =
    let l = c.loop-byte in
    let a = c.args in
    let n = (a.at + a.w + 7) / 8 - a.at / 8 in
    let within : l.byte-index < n = omega (arith, length-take {A = ℕ}) in
    omega (arith, l.invariant, code_lt (bits_of a.bytes.now) (bits_of_binary a.bytes.now) (8 * (a.at / 8)) (8 * l.byte-index) 40 (omega arith), c.from.ensures, part_item a.bytes.now (a.at / 8) n l.byte-index within, c.type_inv.bytes (a.at / 8 + l.byte-index))

pub loop-byte-preserved : goal.loop-byte-preserved
loop-byte-preserved c =
    let l = c.loop-byte in
    let a = c.args in
    let bs = bits_of a.bytes.now in
    let first = a.at / 8 in
    let i = first + l.byte-index in
    let n = (a.at + a.w + 7) / 8 - first in
    let within : l.byte-index < n = omega (arith, length-take {A = ℕ}) in
    let before : 8 * l.byte-index ≡ 8 * i - 8 * first = omega arith in
    let behind : 8 * (i + 1) - 8 * first ≡ 8 * (l.byte-index + 1) = omega arith in
    ap₂ (λ (x y : ℕ). x * 256 + y) (l.invariant ∙ ap (Fetching.code bs (8 * first)) before) (c.from.ensures ∙ part_item a.bytes.now first n l.byte-index within)
    ∙ code_byte a.bytes.now first i (omega arith) (omega arith) (omega (arith, c.type_inv.bytes i))
    ∙ ap (Fetching.code bs (8 * first)) behind

pub nonzero_rem-result : goal.nonzero_rem-result
nonzero_rem-result c = omega (arith, pow_pos (c.args.w), (c.power.ensures.fits (omega arith)))

pub returns : goal.returns
returns c =
    let l = c.loop-byte in
    let a = c.args in
    let bs = bits_of a.bytes.now in
    let last = (a.at + a.w + 7) / 8 in
    let first = a.at / 8 in
    let all : 8 * l.byte-index ≡ 8 * last - 8 * first = omega (arith, length-take {A = ℕ}, length-drop {A = ℕ}) in
    let place : 8 * first + a.at % 8 ≡ a.at = omega arith in
    ap₂ (λ (x y : ℕ). x / 2 ^ (last * 8 - (a.at + a.w)) % y) (l.invariant ∙ ap (Fetching.code bs (8 * first)) all) (c.power.ensures.fits (omega arith))
    ∙ code_within bs (bits_of_binary a.bytes.now) (8 * first) (8 * last - 8 * first) (a.at % 8) a.w (last * 8 - (a.at + a.w)) (omega arith) (omega (arith, bits_of_length a.bytes.now))
    ∙ ap (λ (k : ℕ). Fetching.code bs k a.w) place
