-- Nodes are opened, and the rest computes.
use Rattle.std.proofs.Common.{refl}
use Rattle.lock_files.proofs.Opened.{opened}
use Rattle.lock_files.proofs.cases.worked_cases.Goals as goal

pub returns-clause-path_entry : goal.returns-clause-path_entry
returns-clause-path_entry c = record {
  a_file = simp opened;
  a_folder = simp opened;
  good_file = simp opened;
  good_folder = simp opened;
  unquoted = simp opened;
  exponent = simp opened;
  is_exec = simp opened;
  no_persist = simp opened;
  push = simp opened;
  persist_text = simp opened;
  largest = simp opened;
}

pub returns-clause-refused_path_entry : goal.returns-clause-refused_path_entry
returns-clause-refused_path_entry c = record {
  legacy = refl;
  sha256 = simp opened;
  null_hash = simp opened;
  cache = simp opened;
  remote = simp opened;
  persist = simp opened;
  no_push = simp opened;
  no_path = simp opened;
  number_path = simp opened;
  upper_digits = simp opened;
  few_digits = simp opened;
  null_digits = simp opened;
  text_size = simp opened;
  below_zero = simp opened;
  too_large = simp opened;
  count_of_a_file = simp opened;
  null_count_of_a_file = simp opened;
  folder_without_count = simp opened;
  legacy_first = refl;
  asked_first = simp opened;
  twice = simp opened;
  item_without_pairs = simp opened;
}

pub returns-clause-entry : goal.returns-clause-entry
returns-clause-entry c = record {
  one_command = simp opened;
  any_order = simp opened;
  null_parameter = simp opened;
  empty_parts = simp opened;
  written = refl;
}

pub returns-clause-refused_entry : goal.returns-clause-refused_entry
returns-clause-refused_entry c = record {
  no_command = refl;
  no_commands = simp opened;
  null_among_commands = simp opened;
  null_deps = simp opened;
  null_params = simp opened;
  null_file = simp opened;
  outs_first = simp opened;
  no_mapping = simp opened;
}

pub returns-clause-track : goal.returns-clause-track
returns-clause-track c = record {
  kept = simp opened;
  no_outs = simp opened;
  empty_outs = simp opened;
  deps = simp opened;
  wdir = simp opened;
  null_track = simp opened;
}

pub returns-clause-lock : goal.returns-clause-lock
returns-clause-lock c = record {
  null_lock = simp opened;
  empty_lock = simp opened;
  null_stages = simp opened;
  unquoted_schema = simp opened;
  no_schema = simp opened;
  other_schema = simp opened;
  no_stages = simp opened;
  text_stages = simp opened;
  other_keys = simp opened;
  root = simp opened;
  first_stage = simp opened;
  one_stage = simp opened;
}
