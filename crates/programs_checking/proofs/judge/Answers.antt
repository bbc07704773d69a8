-- `programs_checking::judge` meets its contract: a frame that is refused, or what is found of its cells.
-- Assumes nothing.
use mathlib.Core.Path.{refl, sym, ap, ◌∙◌}
use native.Mathlib.Omega.{arith}
use lib.Seq.{length-take-le}
use Rattle.answers.specs.Answers.{answered, ReadAnswer}
use Rattle.answers.proofs.Lent.{failed}
use Rattle.programs.proofs.Frames.{read_fits}
use Rattle.programs_checking.proofs.Checks.{judged_refused, judged_found}
use Rattle.programs_checking.proofs.judge.Goals as goal

pub returns-in-Err : goal.returns-in-Err
returns-in-Err c = let a = c.args in let told = judged_refused a.frame.now a.out.now a.map.now a.cells a.sheet.now c.requires.0 (ap answered (sym c.in-Err.is) ∙ ap (λ (x : ReadAnswer). x.answer) c.read.ensures.answer, c.read.ensures.cells) (omega (arith, c.requires)) (failed c.in-Err.why) (c.put_refusal-length.ensures.length, c.put_refusal-length.ensures.bytes) (refl, refl) in record { answer = told.0; bytes = told.1.0; map = told.1.1 }

pub slice_bounds-find-end : goal.slice_bounds-find-end
slice_bounds-find-end c = let a = c.args in let h = read_fits 0 a.frame.now a.sheet.now (ap answered (sym c.in-Ok.is) ∙ ap (λ (x : ReadAnswer). x.answer) c.read.ensures.answer) refl in omega (arith, h)

pub slice_bounds-find-end-2 : goal.slice_bounds-find-end-2
slice_bounds-find-end-2 c = let a = c.args in let h = read_fits 0 a.frame.now a.sheet.now (ap answered (sym c.in-Ok.is) ∙ ap (λ (x : ReadAnswer). x.answer) c.read.ensures.answer) refl in sym (length-take-le _ _ (omega (arith, h)))

pub slice_bounds-find-end-4 : goal.slice_bounds-find-end-4
slice_bounds-find-end-4 c = sym (length-take-le _ _ (omega (arith, c.requires)))

pub keep-cells-requires : goal.keep-cells-requires
keep-cells-requires c = let a = c.args in let h = read_fits 0 a.frame.now a.sheet.now (ap answered (sym c.in-Ok.is) ∙ ap (λ (x : ReadAnswer). x.answer) c.read.ensures.answer) refl in (omega (arith, h), omega (arith, h, c.requires), omega (arith, c.requires))

pub returns : goal.returns
returns c = let a = c.args in let told = judged_found a.frame.now a.out.now a.map.now a.cells a.sheet.now c.requires.0 (ap answered (sym c.in-Ok.is) ∙ ap (λ (x : ReadAnswer). x.answer) c.read.ensures.answer, c.read.ensures.cells) refl c.find-finding.ensures (c.put_finding-length.ensures.length, c.put_finding-length.ensures.bytes) c.passes.ensures c.keep-cells.ensures in record { answer = told.0; bytes = told.1.0; map = told.1.1 }
