-- Nodes of each variant, opened.
use Rattle.yaml_print.proofs.NodeCases.{out_null, out_bool, out_whole, out_decimal, out_text, out_items, out_pairs}

pub ruleset opened = (out_null, out_bool, out_whole, out_decimal, out_text, out_items, out_pairs)
