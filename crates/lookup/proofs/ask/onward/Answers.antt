use Rattle.std.proofs.Common.{◌≡◌, ℕ, ◌⊎◌, ⊎_elim, ap, ◌∙◌, inl, inr, arith}
use Rattle.zorder.specs.Code.{bit_at}
use Rattle.kinds.specs.Kind.{wide, code_of}
use Rattle.kinds.proofs.Telling.{code_of_lt}
use Rattle.zorder.proofs.Shared.{agree_zeros, zeros_agree}
use Rattle.tree.proofs.Halves.{bit_cases}
use Rattle.page.specs.declared.entry.Entry.{Entry}
use Rattle.access.specs.Reached.{chosen}
use Rattle.lookup.proofs.ask.onward.Goals as goal

-- the half that a bit of a code chooses
half_told : {X : Type 0} (f : X → ℕ) (w n c : ℕ) (low high r : X) → r ≡ chosen (bit_at w n c) low high → ((bit_at w n c ≡ 0) × (f r ≡ f low)) ⊎ ((bit_at w n c ≡ 1) × (f r ≡ f high))
half_told f w n c low high r is =
    ⊎_elim (λ e. inl (e, ap f (is ∙ ap (λ b. chosen b low high) e))) (λ e. inr (e, ap f (is ∙ ap (λ b. chosen b low high) e))) (bit_cases w n c)

pub returns-then-depth-fork : goal.returns-then-depth-fork
returns-then-depth-fork g c e =
    let k = g.K.PointKind.kind in
    let s = g.met.K.PointKind.sound in
    let lt = c.requires.shallow in
    let a = agree_zeros (wide k) _ _ c.args.fork.now.depth (code_of_lt k s c.args.fork.now.low.low c.requires.corner_on) (code_of_lt k s c.args.p.now c.requires.on) (omega arith) e in
    omega (arith, a, c.depth.ensures.zeros, c.if-depth-fork.true)

-- the way goes on in the half of the point's bit
pub returns : goal.returns
returns g c =
    let k = g.K.PointKind.kind in
    let s = g.met.K.PointKind.sound in (
      zeros_agree (wide k) _ _ c.args.fork.now.depth (code_of_lt k s c.args.fork.now.low.low c.requires.corner_on) (code_of_lt k s c.args.p.now c.requires.on) (omega (arith, c.depth.ensures.zeros, c.if-depth-fork.false)),
      half_told (λ (e : Entry g.row.K.Denot). e.page) (wide k) c.args.fork.now.depth (code_of k c.args.p.now) c.args.fork.now.low c.args.fork.now.high c.sides-own.result.0 (c.sides-own.ensures.own ∙ ap (λ b. chosen b c.args.fork.now.low c.args.fork.now.high) c.bit.ensures),
    )
