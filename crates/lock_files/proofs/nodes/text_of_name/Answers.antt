use Rattle.lock_files.proofs.DigestLemmas.{written_ascii}
use Rattle.lock_files.proofs.nodes.text_of_name.Goals as goal

pub of_ascii-requires : goal.of_ascii-requires
of_ascii-requires c =
    written_ascii c.print-len.new.into _ c.print-len.result c.args.name.now c.print-len.ensures.written c.print-len.ensures.count c.print-len.ensures.digits
