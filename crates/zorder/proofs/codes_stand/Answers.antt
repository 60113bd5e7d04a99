use Rattle.zorder.proofs.Corners.{taken_law, code_lt, one_point_law, order_law}
use Rattle.zorder.proofs.Inverse.{every_code_law}
use Rattle.zorder.proofs.Halving.{zeros_law}
use Rattle.zorder.proofs.codes_stand.Goals as goal

pub returns : goal.returns
returns c = record { taken = taken_law; below = code_lt; every_code = every_code_law; one_point = one_point_law; order = order_law; zeros = zeros_law }
