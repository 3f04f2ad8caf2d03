use Rattle.std.proofs.Common.{◌≡◌, ◌≢◌, ◌-◌, ◌*◌, ◌/◌, ◌<◌, [], ◌∷◌, ◌++◌, length, drop, vec_items, sym, refl, ap, ◌∙◌, arith, rules}
use Rattle.std.proofs.lemmas.List.{length-drop}
use Rattle.std.proofs.lemmas.Slice.{pushed}
use Rattle.std.specs.Option.{option_map}
use Rattle.numerals.proofs.Reading.{no_pair, one_pair, no_bytes_left, odd_digit_left}
use Rattle.numerals.proofs.input.hex_pairs.Goals as goal

pub returns-in_err-ok_or : goal.returns-in_err-ok_or
returns-in_err-ok_or c =
    let pairs = c.as_chunks.ensures in
    let some : c.loop-high.high-index < length c.args.digits.now / 2 = omega (arith, pairs.front_len) in
    let none = no_pair c.as_chunks.result.0.now c.loop-high.high-index c.args.digits.now pairs.front some (search rules) in
    let all = sym c.loop-high.invariant ∙ ap (option_map (λ bs. vec_items c.loop-high.bytes ++ bs)) none in
    search (rules, all)

pub loop-high-preserved : goal.loop-high-preserved
loop-high-preserved c =
    let b = c.in_ok-ok_or.field-0 in
    let pairs = c.as_chunks.ensures in
    let some : c.loop-high.high-index < length c.args.digits.now / 2 = omega (arith, pairs.front_len) in
    let now = pushed (b ∷ []) refl c.in_ok-push.was c.push.ensures.items in
    one_pair (vec_items c.loop-high.bytes) (vec_items c.push.new.self) b c.as_chunks.result.0.now c.loop-high.high-index c.args.digits.now pairs.front some (search rules) now
    ∙ c.loop-high.invariant

pub returns-then-not-is_empty : goal.returns-then-not-is_empty
returns-then-not-is_empty c =
    let pairs = c.as_chunks.ensures in
    let left = drop (2 * c.loop-high.high-index) c.args.digits.now in
    let many : length left ≡ length c.args.digits.now - 2 * c.loop-high.high-index = length-drop (2 * c.loop-high.high-index) c.args.digits.now in
    let odd : length c.as_chunks.result.1.now ≢ 0 = search rules in
    let none = odd_digit_left left (omega (arith, many, odd, pairs.front_len, pairs.back_len)) (omega (arith, many, odd, pairs.front_len, pairs.back_len)) in
    sym c.loop-high.invariant ∙ ap (option_map (λ bs. vec_items c.loop-high.bytes ++ bs)) none

pub returns : goal.returns
returns c =
    let pairs = c.as_chunks.ensures in
    let left = drop (2 * c.loop-high.high-index) c.args.digits.now in
    let many : length left ≡ length c.args.digits.now - 2 * c.loop-high.high-index = length-drop (2 * c.loop-high.high-index) c.args.digits.now in
    let even : length c.as_chunks.result.1.now ≡ 0 = search rules in
    sym c.loop-high.invariant ∙ no_bytes_left (vec_items c.loop-high.bytes) left (omega (arith, many, even, pairs.front_len, pairs.back_len))
