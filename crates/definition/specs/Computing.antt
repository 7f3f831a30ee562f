-- Opens every definition with one word, for what is shown by computing: `unfolding computing`.
use Rattle.lists.specs.Lists.{flat, zeros, pad, span, put, chop}
use Rattle.prefix.specs.Mask.{mask, network, host_bits, broadcast, flow_tos}
use Rattle.life.specs.Life.{reached, age, left_preferred, left_valid}
use Rattle.kind.specs.Kind.{kind_of, is_kind, error_of, least_scope}
use Rattle.layout.specs.Address.{fit_address}
use Rattle.layout.specs.Event.{new_addr4, del_addr4, new_route4, del_route4, bare}
use Rattle.layout.specs.Flags.{has_bit, clear_bit, set_bit}
use Rattle.layout.specs.Request.{fit_add_v4, fit_del_v4, fit_add_route4, fit_del_route4}
use Rattle.layout.specs.Route.{fit_route, before, alike}
use Rattle.definition.specs.Reference.Addresses.{covers, same_subnet, kernel_route, primary_of, local_route, prefix_route, up_routes, candidates, life_flags, set_life, asked, as_secondary, same_address, place4, install, new_address, changed_to, moved, change_v4, add_v4, up, down}
use Rattle.definition.specs.Reference.Insert.{list_table, create4, ahead, behind, insert4, kernel_add4, matches, kernel_del4}
use Rattle.definition.specs.Reference.Lookup.{fits, longest, answer, together, lookup_in, lookup4, lookup4_flow, type_set, addr_type4, local4}
use Rattle.definition.specs.Reference.Removal.{wanted, leaving, unwanted, fall, disable, remove_one, gone_with, remove_v4, deletes, del_v4, due, deprecates, deprecate, deprecate_due, passes, expire}
use Rattle.definition.specs.Reference.Routes.{form_check, onlink_check, gateway_route, gateway4, reach_check, valid_prefsrc4, asked_route, selects, del_route4_request, added_by}
use Rattle.definition.specs.Reference.Source.{below, table_order, dump4, eligible, select4, source4, source, left}
use Rattle.definition.specs.State.{also, through}
use Rattle.definition.specs.Step.{changing, reading, left_call}
use Rattle.definition.specs.Words.{encode, decode, none_twice, ordered, distinct, fit_state, unused_zero, well_formed, row_counts, counts_true, changed, counted}

unfoldable pub computing : Unit {0}
unfolding flat zeros pad span put chop mask network host_bits broadcast flow_tos reached age left_preferred left_valid kind_of is_kind error_of least_scope fit_address new_addr4 del_addr4 new_route4 del_route4 bare has_bit clear_bit set_bit fit_add_v4 fit_del_v4 fit_add_route4 fit_del_route4 fit_route before alike covers same_subnet kernel_route primary_of local_route prefix_route up_routes candidates life_flags set_life asked as_secondary same_address place4 install new_address changed_to moved change_v4 add_v4 up down list_table create4 ahead behind insert4 kernel_add4 matches kernel_del4 fits longest answer together lookup_in lookup4 lookup4_flow type_set addr_type4 local4 wanted leaving unwanted fall disable remove_one gone_with remove_v4 deletes del_v4 due deprecates deprecate deprecate_due passes expire form_check onlink_check gateway_route gateway4 reach_check valid_prefsrc4 asked_route added_by selects del_route4_request below table_order dump4 eligible select4 source4 source left also through changing reading left_call encode decode none_twice ordered distinct fit_state unused_zero well_formed row_counts counts_true changed counted
computing = tt
