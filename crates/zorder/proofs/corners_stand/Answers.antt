use Rattle.zorder.proofs.Corners.{window_law, bounds_law, corner_law}
use Rattle.zorder.proofs.Halving.{depth_law, parts_law}
use Rattle.zorder.proofs.corners_stand.Goals as goal

pub returns : goal.returns
returns c = record { window = window_law; bounds = bounds_law; depth = depth_law; corner = corner_law; parts = parts_law }
