-- Lists, tests and orders, and what is known of them: the names that proofs of this crate cite.
pub use Rattle.std.specs.Prelude.{All, Bool, Contains, Err, IsTrue, List, None, Ok, Option, Result, Some, [], count_by, drop, false, filter_map, flat_map, get_or, is_some, length, map, min, nat_le, nat_lt, position, replicate, slice_get, slice_index_or, slice_set, take, true, unwrap_or, ◌%◌, ◌*◌, ◌++◌, ◌<◌, ◌∷◌, ◌≡◌, ◌⊎◌}
pub use Rattle.std.specs.List.{cons_option, find, list_all, list_any, position_or_len, range_with_len}
pub use Rattle.std.specs.Option.{option_eq, option_map}
pub use Rattle.std.specs.Ordering.{eq_by_cmp, is_eq, is_lt, match_ordering, nat_cmp, ordering_then}
pub use Rattle.std.specs.Cmp.{IsTotalOrder, nat_cmp_total, tied_itself}
pub use Rattle.std.proofs.Math.Bool.{and-false, or-false, or-true, or_assoc}
pub use Rattle.std.proofs.lemmas.Bool.{and_from, and_parts, cases_lt, cond_both, eqb-true, false_from_ne_true, ne_eqb, not-false, not-true, or_parts, true_from_ne_false}
pub use Rattle.std.proofs.lemmas.Option.{cond_some, slice_get-get_or}
pub use Rattle.std.proofs.lemmas.List.{map-append}
pub use Rattle.std.proofs.lemmas.List.Elements.{filter-append, filter_map-append}
pub use Rattle.std.proofs.lemmas.List.Folds.{list_any-append}
pub use Rattle.std.proofs.lemmas.List.Quantifiers.{position-Some}
pub use Rattle.std.proofs.lemmas.List.Sums.{AllPass-from_list_all, sum_by-append, sum_by-cons}
pub use Rattle.rapid_model.proofs.Lists.{In, contains_from, in_filter, in_from, in_left, in_map, in_right, in_split}
pub use Rattle.rapid_model.proofs.Orders.{ballots_decided, ballots_exact, cuts_exact, cuts_total, first_equal, notices_total, processes_exact, processes_total, reports_exact, reports_total, same_bytes_decides, same_cut_decides, second_equal, tie_decides}
pub use Rattle.rapid_model.proofs.Ballots.{Before-antisym, Before-irrefl, UpTo-from, from_above, from_itself, from_trans}
