-- `run::run` meets its contract. Assumes nothing.
use native.Mathlib.Omega.{arith}
use Rattle.outcome.proofs.Fits.{file_counts}
use Rattle.outcome.proofs.Fronts.{written_front, written_long}
use Rattle.text.specs.Place.{longest}
use Rattle.run.proofs.Saying.{told_as, told_is, residuals_told, capped_told, said, says_malformed, says_refused, rows_are, capped_are, capped_few, says_accepted}
use Rattle.run.proofs.run.Goals as goal

pub returns-then-a-eq43 : goal.returns-then-a-eq43
returns-then-a-eq43 c =
    let told = c.malformed.ensures in
    let came = said c.args.out.now _ _ 128 (omega arith) (says_malformed c.args.file.now (told_as c.of_file-o.result c.told-a.result) (told_is c.args.file.now c.of_file-o.result c.told-a.ensures c.of_file-o.ensures.value) c.if-a-eq43.true) (told.value, (told.out_after, told.upper_bound)) in
    record { value = came.0; out_after = came.1.0; upper_bound = came.1.1 }

pub returns-then-a-ne0 : goal.returns-then-a-ne0
returns-then-a-ne0 c =
    let told = c.refused.ensures in
    let came = said c.args.out.now _ _ 256 (omega arith) (says_refused c.args.file.now (told_as c.of_file-o.result c.told-a.result) (told_is c.args.file.now c.of_file-o.result c.told-a.ensures c.of_file-o.ensures.value) c.if-a-eq43.false c.if-a-ne0.true) (told.value, (told.out_after, told.upper_bound)) in
    record { value = came.0; out_after = came.1.0; upper_bound = came.1.1 }

pub overflow_mul-n : goal.overflow_mul-n
overflow_mul-n c = let k = file_counts c.args.file.now 1024 256 (told_as c.of_file-o.result c.told-a.result) (told_is c.args.file.now c.of_file-o.result c.told-a.ensures c.of_file-o.ensures.value) c.if-a-ne0.false in omega arith

pub slice_bounds-residuals-end : goal.slice_bounds-residuals-end
slice_bounds-residuals-end c = let k = file_counts c.args.file.now 1024 256 (told_as c.of_file-o.result c.told-a.result) (told_is c.args.file.now c.of_file-o.result c.told-a.ensures c.of_file-o.ensures.value) c.if-a-ne0.false in omega arith

pub slice_bounds-accepted-end : goal.slice_bounds-accepted-end
slice_bounds-accepted-end c = let rows = rows_are c.args.file.now (told_as c.of_file-o.result c.told-a.result) (told_is c.args.file.now c.of_file-o.result c.told-a.ensures c.of_file-o.ensures.value) c.if-a-ne0.false in
    written_long _ _ _ _ (residuals_told c.args.file.now c.of_file-o.result c.told-a.ensures _ c.of_file-o.ensures.residuals_after) c.if-a-ne0.false _ rows

pub slice_bounds-capped-end : goal.slice_bounds-capped-end
slice_bounds-capped-end c = omega (arith, capped_few c.args.file.now (told_as c.of_file-o.result c.told-a.result) (told_is c.args.file.now c.of_file-o.result c.told-a.ensures c.of_file-o.ensures.value) c.if-a-ne0.false, capped_are c.args.file.now (told_as c.of_file-o.result c.told-a.result) (told_is c.args.file.now c.of_file-o.result c.told-a.ensures c.of_file-o.ensures.value) c.if-a-ne0.false)

pub slice_bounds-accepted-end-2 : goal.slice_bounds-accepted-end-2
slice_bounds-accepted-end-2 c = let count = capped_are c.args.file.now (told_as c.of_file-o.result c.told-a.result) (told_is c.args.file.now c.of_file-o.result c.told-a.ensures c.of_file-o.ensures.value) c.if-a-ne0.false in
    written_long _ _ _ _ (capped_told c.args.file.now c.of_file-o.result c.told-a.ensures _ c.of_file-o.ensures.capped_after) c.if-a-ne0.false _ count

pub returns : goal.returns
returns c = let s = c.args.file.now in
    let o = told_as c.of_file-o.result c.told-a.result in
    let e = told_is s c.of_file-o.result c.told-a.ensures c.of_file-o.ensures.value in
    let z = c.if-a-ne0.false in
    let told = c.accepted.ensures in
    let came =
    said c.args.out.now _ _ longest (omega arith)
    (says_accepted s o e z _ _
    (written_front _ _ _ _ (residuals_told c.args.file.now c.of_file-o.result c.told-a.ensures _ c.of_file-o.ensures.residuals_after) z _ (rows_are s o e z))
    (written_front _ _ _ _ (capped_told c.args.file.now c.of_file-o.result c.told-a.ensures _ c.of_file-o.ensures.capped_after) z _ (capped_are s o e z)))
    (told.value, (told.out_after, told.upper_bound)) in
    record { value = came.0; out_after = came.1.0; upper_bound = came.1.1 }
