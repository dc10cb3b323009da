use Rattle.std.proofs.Common.{sym, subst}
use Rattle.yaml_print.specs.Sound.{IsPrintable}
use Rattle.lock_files.proofs.PrintableLemmas.{key_printable}
use Rattle.lock_files.proofs.print.print_key.Goals as goal

pub print-requires : goal.print-requires
print-requires c = subst IsPrintable (sym c.in_ok-node.ensures.exact) (key_printable c.args.entry.now c.requires)
