-- What is written where a job refuses: zeros alone, as many as the lent array has.
-- Assumes nothing.
use Rattle.std.specs.Prelude.{Err}
use mathlib.Core.Path.{◌≡◌, refl}
use lib.ListN.{replicate}
use Rattle.calendar.specs.Rows.{field_count, row_fields}
use Rattle.calendar.specs.Answers.{zero_head, zero_row}
use Rattle.lunisolar.specs.Answers.{zero_day, zero_date}
use Rattle.ephemeris.specs.Answers.{zero_phases, zero_nodes, zero_corrections, zero_point}
use Rattle.refusal.specs.declared.Refusal.{Refusal}
use Rattle.planets.specs.Answers.{zero_conjunctions}
use Rattle.planets.specs.Stages.{room, no_stages}
use Rattle.walk.specs.Walked.{zero_walk}
use Rattle.fields.specs.Fields.{head_fields, day_fields, date_fields, phases_fields, nodes_fields, corrections_fields, point_fields, conjunctions_fields, stages_fields, location_fields}
use Rattle.mean_calendar.specs.Answers as mean
use Rattle.mean_calendar.specs.Months as mean-months
use Rattle.zhengguang.specs.Answers as zhengguang
use Rattle.zhengguang.specs.Rows as zhengguang-rows
use Rattle.fields.specs.Walks.{totals_fields}
use Rattle.fields.specs.Calendars.{mean_head_fields, mean_point_fields, zhengguang_head_fields, month_nodes_fields}

pub record Zeros : Type 0 where
  pub head : head_fields zero_head ≡ replicate 6 0
  pub row : row_fields zero_row ≡ replicate field_count 0
  pub day : day_fields zero_day ≡ replicate 2 0
  pub date : date_fields zero_date ≡ replicate 3 0
  pub phases : phases_fields zero_phases ≡ replicate 12 0
  pub nodes : nodes_fields zero_nodes ≡ replicate 15 0
  pub corrections : corrections_fields zero_corrections ≡ replicate 14 0
  pub point : point_fields zero_point ≡ replicate 3 0
  pub last : row_fields zero_walk.row ≡ replicate field_count 0
  pub totals : totals_fields zero_walk.sum zero_walk.answered ≡ replicate 3 0
  pub conjunctions : conjunctions_fields zero_conjunctions ≡ replicate 10 0
  pub stages : stages_fields no_stages ≡ replicate room (replicate 10 0)
  pub mean_head : mean_head_fields mean.zero_head ≡ replicate 5 0
  pub mean_month : mean-months.month_fields mean.zero_month ≡ replicate mean-months.field_count 0
  pub mean_point : mean_point_fields mean.zero_point ≡ replicate 3 0
  pub zhengguang_head : zhengguang_head_fields zhengguang.zero_head ≡ replicate 6 0
  pub zhengguang_row : zhengguang-rows.row_fields zhengguang.zero_row ≡ replicate zhengguang-rows.field_count 0
  pub zhengguang_nodes : month_nodes_fields zhengguang.zero_nodes ≡ replicate 6 0
  pub location : (e : Refusal) → location_fields (Err e) ≡ replicate 2 0

pub zeros : Zeros
zeros =
    record {
      head = refl;
      row = refl;
      day = refl;
      date = refl;
      phases = refl;
      nodes = refl;
      corrections = refl;
      point = refl;
      last = refl;
      totals = refl;
      conjunctions = refl;
      stages = refl;
      mean_head = refl;
      mean_month = refl;
      mean_point = refl;
      zhengguang_head = refl;
      zhengguang_row = refl;
      zhengguang_nodes = refl;
      location = λ e. refl;
    }
