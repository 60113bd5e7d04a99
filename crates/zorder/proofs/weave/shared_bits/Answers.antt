use Rattle.std.proofs.Common.{◌≡◌, ◌-◌, sym, subst, arith}
use lib.Bits.{bit_xor, xor_lt}
use lib.Count.{count_leading_zeros}
use Rattle.zorder.specs.Sharing.{Shares}
use Rattle.zorder.proofs.Shared.{shares_zeros, zeros_wide}
use Rattle.zorder.proofs.weave.shared_bits.Goals as goal

pub overflow_sub-result-2 : goal.overflow_sub-result-2
overflow_sub-result-2 c = omega (arith, zeros_wide 64 c.args.width (bit_xor c.args.a c.args.b) (omega arith) (xor_lt c.args.width c.args.a c.args.b c.requires.a_fits c.requires.b_fits))

pub returns : goal.returns
returns c =
    let w = c.args.width in
    let a = c.args.a in
    let b = c.args.b in
    let wide = zeros_wide 64 w (bit_xor a b) (omega arith) (xor_lt w a b c.requires.a_fits c.requires.b_fits) in
    let e : count_leading_zeros 64 (bit_xor a b) - (64 - w) ≡ count_leading_zeros w (bit_xor a b) = omega (arith, wide) in
    record { shares = subst (λ n. Shares w n a b) (sym e) (shares_zeros w a b c.requires.a_fits c.requires.b_fits); zeros = e }
