use Rattle.std.proofs.Common.{rules, ◌≡◌, length, sym, refl, ap, ◌∙◌, arith}
use Rattle.lookup.proofs.Tallies.{all_points, free_fits, pages_left, data_are, directories_are, free_are}
use Rattle.lookup.proofs.tally.tally.Goals.{then-count-gt65535-via-then-count-gt65535, then-count-gt65535-via-else-count-gt65535+then-count-from}
use Rattle.lookup.proofs.tally.tally.Goals as goal

-- the head of a lawful card is read
pub returns-in_err-head-clause-lawful : goal.returns-in_err-head-clause-lawful
returns-in_err-head-clause-lawful g c set w = absurd (c.in_err-head.ensures.lawful set w)

-- a lawful card has at most 65,535 pages, and more than free ones
pub returns-then-count-gt65535 : goal.returns-then-count-gt65535
returns-then-count-gt65535 g c =
    let k = g.K.PointKind.kind in
    let s = g.met.K.PointKind.sound in
    record {
      lawful = λ set w.
          let h = c.in_ok-head.ensures.lawful set w in
          let n = c.count-count.ensures.gives ∙ ap length c.load_head.ensures.keeps in
          let big = w.size.1 in
          let f = free_fits k s _ set w _ h.1 in
          elim c.then-count-gt65535.branch [
            | then-count-gt65535-via-then-count-gt65535 v ↦ omega (arith, n, big, v.if-count-gt65535.true)
            | then-count-gt65535-via-else-count-gt65535+then-count-from v ↦ omega (arith, n, f, v.if-count-from.true)
          ];
      always = refl;
      keeps = c.load_head.ensures.keeps;
    }

pub returns : goal.returns
returns g c =
    let k = g.K.PointKind.kind in
    let s = g.met.K.PointKind.sound in
    record {
      lawful = λ set w.
          let h = c.in_ok-head.ensures.lawful set w in
          let n = c.count-count.ensures.gives ∙ ap length c.load_head.ensures.keeps in
          let f : length w.chain ≡ c.from-free_pages.result = h.1 ∙ sym c.from-free_pages.ensures in
          let left = pages_left k s _ set w c.from-free_pages.result f c.count-count.result n in
          record {
            all_points = all_points k s _ set w c.in_ok-head.head.root h.2 c.map_or-points.result _ c.map_or-points.ensures (λ e q. search rules);
            all_data = data_are k s _ set w c.from-free_pages.result f _ left;
            all_directories = directories_are k s _ set w c.from-free_pages.result f _ left;
            all_pages = free_are k s _ set w c.from-free_pages.result f;
          };
      always = tt;
      keeps = c.load_head.ensures.keeps;
    }
