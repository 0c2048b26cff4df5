-- Each lane is marked where its byte can't stand in a field without quotes
use Rattle.std.proofs.Common.{refl}
use Rattle.std.proofs.lemmas.Simd.{length-chunk, zip2_of_maps, zip2_splat}
use lib.Lanes.{chunk}
use Rattle.cell_rows.proofs.Marks.{marks_of_load}
use Rattle.cell_rows.proofs.together.marks_from.Goals as goal

pub returns : goal.returns
returns c =
    let v = chunk c.args.from 32 c.args.text.now in
    let long = length-chunk c.args.from 32 c.args.text.now c.requires in
    marks_of_load c.args.text.now c.args.from _ _ c.requires c.type_inv.text refl
    (zip2_of_maps _ _ _ v (zip2_of_maps _ _ _ v (zip2_splat _ v 32 44 long) (zip2_splat _ v 32 34 long))
    (zip2_of_maps _ _ _ v (zip2_splat _ v 32 13 long) (zip2_splat _ v 32 10 long)))
