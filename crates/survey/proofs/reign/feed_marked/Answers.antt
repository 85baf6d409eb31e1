use Rattle.std.proofs.Common.{sym, arith, length-take-le}
use Rattle.survey.proofs.reign.feed_marked.Goals as goal

-- The first block of the two is the front part of a longer list.
pub slice_bounds-marked-end : goal.slice_bounds-marked-end
slice_bounds-marked-end c = sym (length-take-le 512 c.put_block.new.out (omega (arith, c.put_block.ensures)))
