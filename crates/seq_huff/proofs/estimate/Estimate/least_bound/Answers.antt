use Rattle.std.proofs.Common.{◌+◌, ◌/◌, ◌%◌, ◌≤◌, arith}
use Rattle.std.proofs.Math.Nat.{div-add-mod}
use Rattle.seq_huff.proofs.EstimateLaws.{few-whole}
use Rattle.seq_huff.proofs.SumsLaws.{made-fits}
use Rattle.seq_huff.proofs.estimate.Estimate.least_bound.Goals as goal

pub overflow_mul-result : goal.overflow_mul-result
overflow_mul-result c =
    let some = c.requires.some in
    let whole = c.args.huffman / c.args.weight in
    let low = few-whole c.args.weight c.args.huffman 255 whole (c.args.huffman % c.args.weight) (div-add-mod c.args.huffman c.args.weight) c.requires.few some in
    let a = c.requires.sums whole (omega arith) in
    let b = c.requires.sums (whole + 1) (omega arith) in
    let d = c.requires.sums (whole + 1 + 1) (omega arith) in
    let e1 = c.sum_without-first.ensures in
    let e2 = c.sum_without-more.ensures in
    let r : c.args.huffman % c.args.weight ≤ c.args.weight = omega arith in
    let f = made-fits c.args.weight (c.args.huffman % c.args.weight) c.sum_without-first.result c.sum_without-more.result r c.requires.light (omega arith) (omega arith) in
    omega arith

pub overflow_mul-result-2 : goal.overflow_mul-result-2
overflow_mul-result-2 c =
    let some = c.requires.some in
    let whole = c.args.huffman / c.args.weight in
    let low = few-whole c.args.weight c.args.huffman 255 whole (c.args.huffman % c.args.weight) (div-add-mod c.args.huffman c.args.weight) c.requires.few some in
    let a = c.requires.sums whole (omega arith) in
    let b = c.requires.sums (whole + 1) (omega arith) in
    let d = c.requires.sums (whole + 1 + 1) (omega arith) in
    let e1 = c.sum_without-first.ensures in
    let e2 = c.sum_without-more.ensures in
    let r : c.args.huffman % c.args.weight ≤ c.args.weight = omega arith in
    let f = made-fits c.args.weight (c.args.huffman % c.args.weight) c.sum_without-first.result c.sum_without-more.result r c.requires.light (omega arith) (omega arith) in
    omega arith

pub overflow_add-result : goal.overflow_add-result
overflow_add-result c =
    let some = c.requires.some in
    let whole = c.args.huffman / c.args.weight in
    let low = few-whole c.args.weight c.args.huffman 255 whole (c.args.huffman % c.args.weight) (div-add-mod c.args.huffman c.args.weight) c.requires.few some in
    let a = c.requires.sums whole (omega arith) in
    let b = c.requires.sums (whole + 1) (omega arith) in
    let d = c.requires.sums (whole + 1 + 1) (omega arith) in
    let e1 = c.sum_without-first.ensures in
    let e2 = c.sum_without-more.ensures in
    let r : c.args.huffman % c.args.weight ≤ c.args.weight = omega arith in
    let f = made-fits c.args.weight (c.args.huffman % c.args.weight) c.sum_without-first.result c.sum_without-more.result r c.requires.light (omega arith) (omega arith) in
    omega arith
