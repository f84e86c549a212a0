-- All definitions unfold at once: what the trials compute with.
use Rattle.model.specs.Blocks.{block, weighted_sum, check_of, numbered, sealed_block, sealed_image, header, kinds, record_start, block_total, kind_at, records_at, within_limits, laid_out, record_at}
use Rattle.model.specs.RuleTables.{code_points, pairs, letter_sets, pairs_and_boundary, is_code_point, is_pair, in_set, is_set, is_side, column, is_final, next_state, is_table, matches_side, matches, takes_column, column_for, columns_of, fed, accepts}
use Rattle.model.specs.Lexicon.{entry_count, first_entry, in_lexicon, form_of, may_stop, goes_to, right_ways, way_count, is_entry_of, is_entry, linked}
use Rattle.model.specs.GrammarOf.{grammar_of}
use Rattle.model.specs.Readings.{passes, is_path, is_reading, is_reading_of, up_to, beyond, step_list, ending_list, steps_by}
use Rattle.model.specs.Query.{answers, entry_numbers, query_of}
use Rattle.folding.specs.Folding.{lower_case, fold}
use Rattle.model.specs.Spelling.{letter_of, letter_spelled, word_spelled}
use Rattle.model.specs.Walk.{walk}
use Rattle.model.specs.Tree.{step_all, alive, begun, finish, count_at, may_at, go_at, complete, start, reading_at, readings}
use Rattle.model.specs.Refusals.{right_length, right_checks, right_layout, right_letters, right_pairs, right_tables, right_columns, right_entries, is_lexical, right_forms, format_tests, image_tests, image_verdict, word_tests, path_tests, pairing_tests, own_tests, request_tests, judge_tests, view_tests, point_tests, spelling_tests}
use Rattle.model.specs.Rows.{row_numbers, row_bytes, row_at, filled, reply_to, reply_number}
use Rattle.model.specs.Calls.{sealing_reply, after_sealing, steps_of, request_verdict, all_readings, listing_reply, listing_rows, after_listing}
use Rattle.model.specs.Beside.{judged, form_start, viewed, form_reply, spelling_verdict, spelling_reply, after_spelling}
use Rattle.model.specs.Lines.{lines_from, lines_of, fields_from, fields_of, value_from, is_number, line_of, digits, spaced, printed_reply, printed_row, printed_line, printed}
use Rattle.model.specs.Samples.{plain_block, entry_bytes, set_bytes, image_with, image_of, luz_image, tc_with, tc_image, front_with, front_image, dead_image, slip_image, sets_with, sets_image}

unfoldable pub computed : Unit {0}
unfolding block weighted_sum check_of numbered sealed_block sealed_image header kinds record_start block_total kind_at records_at within_limits laid_out record_at code_points pairs letter_sets pairs_and_boundary is_code_point is_pair in_set is_set is_side column is_final next_state is_table matches_side matches takes_column column_for columns_of fed accepts entry_count first_entry in_lexicon form_of may_stop goes_to right_ways way_count is_entry_of is_entry linked grammar_of passes is_path is_reading is_reading_of up_to beyond step_list ending_list steps_by answers entry_numbers query_of lower_case fold letter_of letter_spelled word_spelled walk step_all alive begun finish count_at may_at go_at complete start reading_at readings right_length right_checks right_layout right_letters right_pairs right_tables right_columns right_entries is_lexical right_forms format_tests image_tests image_verdict word_tests path_tests pairing_tests own_tests request_tests judge_tests view_tests point_tests spelling_tests row_numbers row_bytes row_at filled reply_to reply_number sealing_reply after_sealing steps_of request_verdict all_readings listing_reply listing_rows after_listing judged form_start viewed form_reply spelling_verdict spelling_reply after_spelling lines_from lines_of fields_from fields_of value_from is_number line_of digits spaced printed_reply printed_row printed_line printed plain_block entry_bytes set_bytes image_with image_of luz_image tc_with tc_image front_with front_image dead_image slip_image sets_with sets_image
computed = tt
