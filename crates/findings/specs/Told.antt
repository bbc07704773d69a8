-- What is found, by what the code answers.
use Rattle.rules.specs.Breaches as breaches
use Rattle.signals.specs.Mismatches as mismatches
use Rattle.findings.specs.Finding.{Finding}
use Rattle.findings.specs.Finding as finding
use Rattle.findings.specs.declared.Finding as answer
use Rattle.findings.specs.declared.Finding.TheVariants as answers

unfoldable pub told : answer.Finding → Finding
told (answers.Ruled checked) = finding.Ruled (breaches.told checked)
told (answers.Profiled checked) = finding.Profiled (breaches.told checked)
told (answers.Compared checked) = finding.Compared (mismatches.told checked)
told (answers.Map nodes) = finding.Map nodes
told answers.NoMap = finding.NoMap
told answers.NoRule = finding.NoRule
