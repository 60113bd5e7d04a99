use Rattle.std.proofs.Common.{◌+◌, ◌∙◌, [], ◌∷◌, ◌++◌, subst, arith, length-append}
use Rattle.kinds.specs.Bytes.{bytes}
use Rattle.kinds.specs.Kind.{bytes_of}
use Rattle.outlines.specs.Records.{Wrote, sort_number}
use Rattle.page.proofs.Writing.{four_bytes}
use Rattle.outlines.proofs.Writes.{wrote_then}
use Rattle.outlines.proofs.record.put_record.Goals as goal

pub returns : goal.returns
returns g c =
    let k = g.K.PointKind.kind in
    let e = c.args.entry.now in
    let at = c.args.at in
    let lo = bytes_of k e.low in
    let hi = bytes_of k e.high in
    let s = c.SIZE.ensures ∙ g.met.K.PointKind.constants.2 in
    let l = c.put_point.ensures.long in
    let h = c.put_point-2.ensures.long in
    let shared = c.depth-shared.result in
    let both = length-append lo hi in
    let corners = wrote_then _ lo _ (at + 6) c.put_point.ensures.wrote (at + 6 + c.SIZE.result) hi _ (omega arith) c.put_point-2.ensures.wrote in
    let from-shared = wrote_then _ (shared ∷ []) _ (at + 5) c.put_bytes-3.ensures (at + 6) (lo ++ hi) _ (omega arith) corners in
    let from-count = wrote_then _ (bytes 4 e.count) _ (at + 1) (subst (λ z. Wrote c.put_bytes.new.buffer (at + 1) z c.put_bytes-2.new.buffer) (c.to_le_bytes.ensures ∙ four_bytes e.count) c.put_bytes-2.ensures) (at + 5) (shared ∷ (lo ++ hi)) _ (omega arith) from-shared in
    let all = wrote_then _ (c.from.result ∷ []) _ at c.put_bytes.ensures (at + 1) (bytes 4 e.count ++ (shared ∷ (lo ++ hi))) _ (omega arith) from-count in
    let named = subst (λ n. Wrote c.args.buffer.now at (n ∷ (bytes 4 e.count ++ (shared ∷ (lo ++ hi)))) c.put_point-2.new.buffer) c.from.ensures all in
    record {
      wrote = subst (λ n. Wrote c.args.buffer.now at (sort_number c.args.sort ∷ (bytes 4 e.count ++ (n ∷ (lo ++ hi)))) c.put_point-2.new.buffer) c.depth-shared.ensures.zeros named;
      long = omega arith;
    }
