use Rattle.std.proofs.Common.{◌+◌, ◌++◌, ◌∙◌, arith}
use Rattle.kinds.specs.Bytes.{bytes}
use Rattle.kinds.specs.Kind.{bytes_of}
use Rattle.page.specs.Checks.{summary}
use Rattle.page.proofs.Writing.{four_bytes, adds_as, adds_more, entry_adds, entry_long}
use Rattle.page.proofs.encode.put_entry.Goals as goal

pub returns : goal.returns
returns g c =
    let k = g.K.PointKind.kind in
    let e = c.args.entry.now in
    let lo = bytes_of k e.low in
    let hi = bytes_of k e.high in
    let s = c.SIZE.ensures ∙ g.met.K.PointKind.constants.2 in
    let l = c.put_point.ensures.long in
    let a3 = adds_more (c.args.at + 6) (c.args.at + 6 + c.SIZE.result) _ _ _ lo hi (omega arith) c.put_point.ensures.adds c.put_point-2.ensures.adds in
    let a2 = adds_more (c.args.at + 2) (c.args.at + 6) _ _ _ (bytes 4 e.count) (lo ++ hi) (omega arith) (adds_as c.put_bytes.new.page (c.args.at + 2) c.put_bytes-2.new.page _ _ (c.to_le_bytes-2.ensures ∙ four_bytes e.count) c.put_bytes-2.ensures) a3 in
    let a1 = adds_more c.args.at (c.args.at + 2) _ _ _ (bytes 2 e.page) (bytes 4 e.count ++ (lo ++ hi)) (omega arith) (adds_as c.args.page.now c.args.at c.put_bytes.new.page _ _ c.to_le_bytes.ensures c.put_bytes.ensures) a2 in
    record { adds = entry_adds k (summary k e) c.args.page.now c.args.at c.put_point-2.new.page a1; long = entry_long k (summary k e) l c.put_point-2.ensures.long }
