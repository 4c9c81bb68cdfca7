mod NodeLaws
mod CrewLaws
mod WiringLaws
mod PlayedLaws
