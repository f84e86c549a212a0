-- The starred trials of document 01, and those of document 02, computed from the definitions.
use mathlib.Core.Path.{refl}
use Rattle.trials.specs.Trials.{Starred}
use Rattle.model.proofs.Computed.{computed}

pub starred : Starred
unfolding computed
starred =
    record {
      luz_accepted = refl;
      luz_readings = refl;
      luz_steps = refl;
      luces_readings = refl;
      luces_reply = refl;
      luces_number = refl;
      luces_more = refl;
      luces_row = refl;
      luzes_none = refl;
      luc_readings = refl;
      path_readings = refl;
      path_reply = refl;
      path_word = refl;
      zero_check = refl;
      last_byte_check = refl;
      tc_accepted = refl;
      tc_before_i = refl;
      tt_before_i = refl;
      tc_alone = refl;
      tt_alone = refl;
      front_accepted = refl;
      front_s = refl;
      front_ts = refl;
      front_s_none = refl;
      front_ts_readings = refl;
      front_path_s = refl;
      front_path_ts = refl;
      dead_front_accepted = refl;
      dead_front_analysed = refl;
      dead_front_generated = refl;
      dead_front_judged = refl;
      slip_checked = refl;
      slip_analysed = refl;
      slip_generated = refl;
      slip_judged = refl;
      slip_form = refl;
      slip_viewed = refl;
      slip_sealed = (refl, refl);
      slip_bad_word = refl;
      slip_and_8 = refl;
      sets_accepted = refl;
      sets_ii_q = refl;
      sets_ie_q = refl;
      sets_ii_nq = refl;
      sets_ii_a = refl;
      sets_readings = refl;
      sets_none = refl;
      null_and_boundary = refl;
      tie_of_sets = refl;
      tie_with_letter = refl;
      letter_narrower = refl;
      capitals_reply = refl;
      capitals_bytes = refl;
      capitals_short = (refl, refl);
      Z-stays = (refl, refl);
      z_found = refl;
      no_letter = refl;
      boundary_letter = refl;
      surrogate = refl;
      slip_spelled = refl;
    }
