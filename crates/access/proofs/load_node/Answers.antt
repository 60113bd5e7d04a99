use Rattle.std.proofs.Common.{sym, ◌∙◌, ap, subst}
use Rattle.page.specs.declared.tree_page.Node.{Node}
use Rattle.page.specs.Checks.{NodeRead}
use Rattle.page.specs.Fields.{Reads}
use Rattle.tree.specs.Lawful.{page}
use Rattle.tree.specs.Standing.{view_of}
use Rattle.access.proofs.Nodes.{never_fault}
use Rattle.access.proofs.load_node.Goals as goal

-- a page that shows a part of the tree is read
pub returns-in_err-node-clause-shown : goal.returns-in_err-node-clause-shown
returns-in_err-node-clause-shown g c t there shows =
    let k = g.K.PointKind.kind in
    let card = g.S.PageStore.pages c.args.store.now in
    let bs = c.in_ok-bytes.bytes in
    let same = c.in_ok-bytes.ensures.gives.1 ∙ ap (page card) c.from.ensures in
    absurd (never_fault k g.met.K.PointKind.sound {X = Node g.row.K.Denot} t bs c.from-2.result (NodeRead k bs) c.in_err-node.field-0.0 (subst (λ x. Reads k x (view_of k t)) (sym same) shows) c.in_err-node.ensures)
