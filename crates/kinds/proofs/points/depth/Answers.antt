use Rattle.std.proofs.Common.{◌≡◌, map, sym, subst}
use lib.Bits.{bit_xor}
use lib.Count.{count_leading_zeros}
use Rattle.zorder.specs.Sharing.{Common}
use Rattle.kinds.specs.Kind.{wide, code_of}
use Rattle.kinds.proofs.Telling.{code_of_lt, corner_depth}
use Rattle.kinds.proofs.points.depth.Goals as goal

pub shared_bits-requires : goal.shared_bits-requires
shared_bits-requires g c =
    let k = g.K.PointKind.kind in
    let s = g.met.K.PointKind.sound in
    record {
      few = rw (c.BITS.ensures, g.met.K.PointKind.constants.0) s.few;
      a_fits = rw (c.BITS.ensures, g.met.K.PointKind.constants.0, c.code.ensures) (code_of_lt k s c.args.low.now c.requires.low_on);
      b_fits = rw (c.BITS.ensures, g.met.K.PointKind.constants.0, c.code-2.ensures) (code_of_lt k s c.args.high.now c.requires.high_on);
    }

pub returns : goal.returns
returns g c =
    let k = g.K.PointKind.kind in
    let low = c.args.low.now in
    let high = c.args.high.now in
    let z : c.shared_bits.result ≡ count_leading_zeros (wide k) (bit_xor (code_of k low) (code_of k high)) = rw (c.BITS.ensures, g.met.K.PointKind.constants.0, c.code.ensures, c.code-2.ensures) at c.shared_bits.ensures.zeros in
    record {
      zeros = z;
      shares = rw (c.BITS.ensures, g.met.K.PointKind.constants.0, c.code.ensures, c.code-2.ensures) at c.shared_bits.ensures.shares;
      set = λ p ps on l h. subst (λ n. Common (wide k) n (code_of k p) (map (code_of k) ps)) (sym z) (corner_depth k g.met.K.PointKind.sound (k.coords low) (k.coords high) p ps on l h);
    }
